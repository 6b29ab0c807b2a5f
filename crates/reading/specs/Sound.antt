-- That every policy that is read is sound.
use Rattle.std.specs.Prelude.{ℕ, ◌≤◌, ◌<◌, true, not, ◌&&◌, ◌≡◌, refl, length}
use Rattle.std.proofs.Common.{zero-le, ⊎_elim, subst, ◌∙◌, ltb-true, ltb-false, length-append, length-set, arith}
use Rattle.std.proofs.Math.Bool.{and-eq-true_iff}
use mathlib.Core.List.Memᴰ.{not-nil}
use mathlib.Core.List.{List, [], ◌∷◌, ◌++◌, Memᴰ as Listed}
use Rattle.std.proofs.lemmas.Bool.{not-true}
use Rattle.roles.specs.declared.RoleSet.{RoleSet}
use Rattle.roles.specs.Sets.{empty_set, with_of}
use Rattle.roles.specs.MemberLaws.{empty_none, empty_sized, with_cases, with_sized}
use Rattle.model.specs.declared.Assign.{Assign}
use Rattle.model.specs.declared.Revoke.{Revoke}
use Rattle.model.specs.declared.Person.{Person}
use Rattle.model.specs.Policy.{State, newcomer, nobody, person, with_role, granted, joined}
use Rattle.tables.specs.declared.Name.{Name}
use Rattle.tables.specs.Names.{packed, place_of}
use Rattle.tables.specs.Named.{named_more, named_none}
use Rattle.text.specs.Forms.{bytes, is_name, is_label}
use Rattle.text.specs.Lists.{each_more, each_set, each_get}
use Rattle.text.specs.Pieces.{split, same_bytes}
use Rattle.walking.specs.Texts.{read}
use Rattle.walking.specs.Kept.{text_keeps}
use Rattle.fields.specs.Fields.{placed, is_declared, all_declared}
use Rattle.fields.specs.Roles.{Inside, roles_inside}
use Rattle.lines.specs.declared.Entry.{Entry}
use Rattle.lines.specs.Lines.{Line, header, role, user, has, assign, revoke, goal, end, other, line_of, asked, in_order, role_kind, user_kind}
use Rattle.lines.specs.LineLaws.{GoodLine}
use Rattle.reading.specs.Policy.{Said, nothing, counts_of, at_stage, say_roles, say_users, say_holdings, say_assigns, say_revokes, say_goals, kind_of, noted, added, judge_line, read_policy}
use Rattle.reading.specs.Answer.{line_leads}
pub use Rattle.reading.specs.SoundRules.{Listing, AtMost, AssignOver, RevokeOver, PersonOver, Sound}

-- ---- one part changed, and all else as it was

module _ {s : Said} (h : Sound s) where
  at_stage_lem : (kind : ℕ) → Sound (at_stage kind s)
  at_stage_lem kind = record { roles = h.roles; users = h.users; people = h.people; holdings = h.holdings; assigns = h.assigns; revokes = h.revokes; goals = h.goals }

  say_users_lem : {users : List Name} {holdings : State} → Listing 64 users → length holdings ≡ length users → ((p : Person) → Listed p holdings → PersonOver (length s.roles) p)
      → Sound (say_users users (say_holdings holdings s))
  say_users_lem listing many over = record { roles = h.roles; users = listing; people = many; holdings = over; assigns = h.assigns; revokes = h.revokes; goals = h.goals }

  say_holdings_lem : {holdings : State} → length holdings ≡ length s.users → ((p : Person) → Listed p holdings → PersonOver (length s.roles) p) → Sound (say_holdings holdings s)
  say_holdings_lem many over = record { roles = h.roles; users = h.users; people = many; holdings = over; assigns = h.assigns; revokes = h.revokes; goals = h.goals }

  say_assigns_lem : {assigns : List Assign} → AtMost 256 (AssignOver (length s.roles)) assigns → Sound (say_assigns assigns s)
  say_assigns_lem over = record { roles = h.roles; users = h.users; people = h.people; holdings = h.holdings; assigns = over; revokes = h.revokes; goals = h.goals }

  say_revokes_lem : {revokes : List Revoke} → AtMost 256 (RevokeOver (length s.roles)) revokes → Sound (say_revokes revokes s)
  say_revokes_lem over = record { roles = h.roles; users = h.users; people = h.people; holdings = h.holdings; assigns = h.assigns; revokes = over; goals = h.goals }

  say_goals_lem : {goals : List RoleSet} → AtMost 32 (Inside (length s.roles)) goals → Sound (say_goals goals s)
  say_goals_lem over = record { roles = h.roles; users = h.users; people = h.people; holdings = h.holdings; assigns = h.assigns; revokes = h.revokes; goals = over }

-- ---- more roles

inside_more : {n m : ℕ} {s : RoleSet} → n ≤ m → Inside n s → Inside m s
inside_more up inside = record { sized = inside.sized; below = λ found. omega (arith, inside.below found) }

at_most_more : {A : Type 0} {limit : ℕ} {P Q : A → Type 0} {xs : List A} → ((x : A) → P x → Q x) → AtMost limit P xs → AtMost limit Q xs
at_most_more more all = record { most = all.most; each = λ x m. more x (all.each x m) }

say_roles_lem : {s : Said} {roles : List Name} → Sound s → length s.roles ≤ length roles → Listing 128 roles → Sound (say_roles roles s)
say_roles_lem h up listing = record {
  roles = listing;
  users = h.users;
  people = h.people;
  holdings = λ p m. record { here = (h.holdings p m).here; held = inside_more up (h.holdings p m).held };
  assigns = at_most_more (λ rule over. record { admin = omega (arith, over.admin); positive = inside_more up over.positive; negative = inside_more up over.negative; target = omega (arith, over.target) }) h.assigns;
  revokes = at_most_more (λ rule over. record { admin = omega (arith, over.admin); target = omega (arith, over.target) }) h.revokes;
  goals = at_most_more (λ goal over. inside_more up over) h.goals;
}

-- ---- one element more

-- a field that is a name and not declared is listed with the others
listing_more : {limit : ℕ} {names : List Name} (field : List ℕ) → Listing limit names → length names < limit → is_name field ≡ true → not (is_declared names field) ≡ true → Listing limit (names ++ (packed field ∷ []))
unfolding is_declared placed
listing_more {limit} {names} field listing room form undeclared = record {
  most = omega (arith, length-append names (packed field ∷ []));
  named = named_more listing.named (record { field = field; form = form; packing = refl }) (ltb-false (place_of names (packed field)) (length names) (not-true (is_declared names field) undeclared));
}

at_most_one_more : {A : Type 0} {limit : ℕ} {P : A → Type 0} {xs : List A} {x : A} → AtMost limit P xs → length xs < limit → P x → AtMost limit P (xs ++ (x ∷ []))
at_most_one_more {A} {limit} {P} {xs} {x} all room new = record { most = omega (arith, length-append xs (x ∷ [])); each = each_more P xs all.each new }

-- no role, and one role more
empty_inside : {n : ℕ} → Inside n empty_set
empty_inside = record { sized = empty_sized; below = λ found. absurd (empty_none found) }

inside_with : {n role : ℕ} {s : RoleSet} → role < n → Inside n s → Inside n (with_of s role)
inside_with {n} {role} {s} here inside = record {
  sized = with_sized role inside.sized;
  below = λ found. ⊎_elim inside.below (λ same. omega (arith, same)) (with_cases s role found);
}

-- a declared name stands at the place of a role
placed_below : (names : List Name) (field : List ℕ) → is_declared names field ≡ true → placed names field < length names
unfolding is_declared
placed_below names field known = ltb-true (placed names field) (length names) known

-- ---- what a good line adds

-- A good line keeps it so.
entry_sound : (s : Said) (line : Line) → (asked (counts_of s) s.roles s.users line).formed ≡ true → (asked (counts_of s) s.roles s.users line).within ≡ true
    → (asked (counts_of s) s.roles s.users line).known ≡ true → Sound s → Sound (noted s (asked (counts_of s) s.roles s.users line).says)
unfolding asked noted counts_of person granted with_role newcomer joined
entry_sound s (header edition) formed within known h = h
entry_sound s (role name) formed within known h =
    let (fits, new) = (and-eq-true_iff (in_order s.stage role_kind && is_name name) (not (is_declared s.roles name))).0 formed in
    say_roles_lem h (omega (arith, length-append s.roles (packed name ∷ [])))
    (listing_more name h.roles (ltb-true (length s.roles) 128 within) ((and-eq-true_iff (in_order s.stage role_kind) (is_name name)).0 fits).1 new)
entry_sound s (user name clearance) formed within known h =
    let (fits, new) = (and-eq-true_iff (in_order s.stage user_kind && is_name name && is_label clearance) (not (is_declared s.users name))).0 formed in
    let form = ((and-eq-true_iff (in_order s.stage user_kind) (is_name name)).0 ((and-eq-true_iff (in_order s.stage user_kind && is_name name) (is_label clearance)).0 fits).0).1 in
    say_users_lem h (listing_more name h.users (ltb-true (length s.users) 64 within) form new)
    (omega (arith, length-append s.users (packed name ∷ []), length-append s.holdings (newcomer (same_bytes clearance (bytes "H")) ∷ []), h.people))
    (each_more (PersonOver (length s.roles)) s.holdings h.holdings (record { here = refl; held = empty_inside }))
entry_sound s (has holder held) formed within known h =
    let (listed, declared) = (and-eq-true_iff (is_declared s.users holder) (is_declared s.roles held)).0 known in
    let there : placed s.users holder < length s.holdings = omega (arith, placed_below s.users holder listed, h.people) in
    let old = each_get (PersonOver (length s.roles)) s.holdings (placed s.users holder) nobody h.holdings there in
    say_holdings_lem h (length-set s.holdings (placed s.users holder) _ ∙ h.people)
    (each_set (PersonOver (length s.roles)) s.holdings (placed s.users holder) h.holdings (record { here = old.here; held = inside_with (placed_below s.roles held declared) old.held }))
entry_sound s (assign admin positive negative target) formed within known h =
    let (left, right) = (and-eq-true_iff (is_declared s.roles admin && all_declared s.roles positive) (all_declared s.roles negative && is_declared s.roles target)).0 known in
    let (is-admin, plus) = (and-eq-true_iff (is_declared s.roles admin) (all_declared s.roles positive)).0 left in
    let (minus, is-target) = (and-eq-true_iff (all_declared s.roles negative) (is_declared s.roles target)).0 right in
    say_assigns_lem h (at_most_one_more h.assigns (ltb-true (length s.assigns) 256 within) (record {
      admin = placed_below s.roles admin is-admin;
      positive = roles_inside s.roles positive plus;
      negative = roles_inside s.roles negative minus;
      target = placed_below s.roles target is-target;
    }))
entry_sound s (revoke admin target) formed within known h =
    let (is-admin, is-target) = (and-eq-true_iff (is_declared s.roles admin) (is_declared s.roles target)).0 known in
    say_revokes_lem h (at_most_one_more h.revokes (ltb-true (length s.revokes) 256 within) (record { admin = placed_below s.roles admin is-admin; target = placed_below s.roles target is-target }))
entry_sound s (goal set) formed within known h = say_goals_lem h (at_most_one_more h.goals (ltb-true (length s.goals) 32 within) (roles_inside s.roles set known))
entry_sound s end formed within known h = h
entry_sound s other formed within known h = h

pub line_sound : (s : Said) (line : List ℕ) {e : Entry} → GoodLine (counts_of s) s.roles s.users (line_of (split 9 line)) e → Sound s → Sound (added s e)
unfolding added
line_sound s line {e} good h =
    at_stage_lem (subst (λ (x : Entry). Sound (noted s x)) good.says (entry_sound s (line_of (split 9 line)) good.formed good.within good.known h)) (kind_of e)

pub nothing_sound : Sound nothing
unfolding nothing
nothing_sound = record {
  roles = record { most = zero-le; named = named_none };
  users = record { most = zero-le; named = named_none };
  people = refl;
  holdings = λ p m. absurd (not-nil m);
  assigns = record { most = zero-le; each = λ x m. absurd (not-nil m) };
  revokes = record { most = zero-le; each = λ x m. absurd (not-nil m) };
  goals = record { most = zero-le; each = λ x m. absurd (not-nil m) };
}

-- Every policy that is read is sound.
pub read_sound : (text : List ℕ) {s : Said} → read_policy text ≡ read s → Sound s
unfolding read_policy
read_sound text {s} is =
    text_keeps judge_line 11 Sound (λ u t line goes h. let l = line_leads u t line goes in subst Sound l.adds (line_sound u line l.good h)) 10 nothing s text is nothing_sound
