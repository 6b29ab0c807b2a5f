-- Each kind of line from what a reader finds, its fields, and what a good line passes.
use Rattle.std.specs.Prelude.{ℕ, ◌<◌, Bool, true, false, cond, not, ◌&&◌, List, [], ◌∷◌, Result, Ok, Err, ◌≡◌, refl, length}
use Rattle.std.proofs.Math.Bool.{and-eq-true_iff}
use Rattle.std.proofs.Common.{true≢false, sym, ap, ap₂, subst, ◌∙◌, ltb-true, arith}
use Rattle.tables.specs.declared.Name.{Name}
use Rattle.roles.specs.declared.RoleSet.{RoleSet}
use Rattle.text.specs.Forms.{bytes, is_name, is_set}
use Rattle.text.specs.Pieces.{split, same_bytes}
use Rattle.text.specs.PieceLaws.{split_piece}
use Rattle.walking.specs.declared.Fault.{Fault}
use Rattle.walking.specs.Faults.{policy_fault}
use Rattle.walking.specs.Turns.{in_turn}
use Rattle.lines.specs.declared.Counts.{Counts}
use Rattle.lines.specs.declared.Entry.{Entry}
use Rattle.fields.specs.Fields.{placed, is_declared, all_declared, roles_of, field_read, name_read, set_read, both_read}
use Rattle.fields.specs.FieldLaws.{both_fields}
use Rattle.lines.specs.Lines.{Line, asked, assign, comes_to, end, five_fields, goal, has, header, judged, line_of, one_field, other, policy_line, revoke, role, tests, three_fields, two_fields, user}

-- ---- the tests of a line in turn

-- What a line comes to is the answer of its tests in turn, each with its number.
comes_in_turn : (formed within known : Bool) (e : Entry) → comes_to formed within known e ≡ in_turn (λ number. Err (policy_fault number)) (tests formed within known) (Ok e)
unfolding comes_to in_turn tests
comes_in_turn true true true e = refl
comes_in_turn true true false e = refl
comes_in_turn true false known e = refl
comes_in_turn false within known e = refl

pub policy_in_turn : (c : Counts) (roles users : List Name) (line : List ℕ)
    → let a = asked c roles users (line_of (split 9 line)) in policy_line c roles users line ≡ in_turn (λ number. Err (policy_fault number)) (tests a.formed a.within a.known) (Ok a.says)
unfolding policy_line judged
policy_in_turn c roles users line = let a = asked c roles users (line_of (split 9 line)) in comes_in_turn a.formed a.within a.known a.says

-- ---- each kind of line, from what a reader finds

-- whether a field is malformed
unfoldable pub malformed : {A : Type 0} → Result A Fault → Bool
malformed (Ok a) = false
malformed (Err Fault.Malformed) = true
malformed (Err Fault.AboveLimit) = false
malformed (Err Fault.Undeclared) = false

-- what the fields of a line come to: malformed, then limit, then names
unfoldable pub turned : {A : Type 0} (formed within : Bool) → Result A Fault → Result A Fault
turned formed within fields = cond (formed && not (malformed fields)) (cond within fields (Err Fault.AboveLimit)) (Err Fault.Malformed)

-- A line whose fields are read says what they say, and has their fault with that of the line.
module _ {A : Type 0} (make : A → Entry) (limited formed known : Bool) (value : A) {ordered order : Bool} {fields turn : Result A Fault}
    (is : order ≡ ordered) (read : fields ≡ field_read formed known value) (turns : turn ≡ turned order limited fields) where
  made : turn ≡ turned ordered limited (field_read formed known value)
  made = turns ∙ ap₂ (λ (o : Bool) (r : Result A Fault). turned o limited r) is read

  pub line_read : {a : A} → turn ≡ Ok a → Ok (make a) ≡ comes_to (ordered && formed) limited known (make value)
  unfolding turned malformed field_read comes_to
  line_read {a} good = go ordered limited formed known (sym good ∙ made)
    where
      go : (o l f k : Bool) → Ok a ≡ turned o l (field_read f k value) → Ok (make a) ≡ comes_to (o && f) l k (make value)
      go true true true true e = ap (λ (x : A). Ok (make x)) (cc)
      go true true true false e = absurd (true≢false (cc))
      go true true false k e = absurd (true≢false (cc))
      go true false true true e = absurd (true≢false (cc))
      go true false true false e = absurd (true≢false (cc))
      go true false false k e = absurd (true≢false (cc))
      go false l f k e = absurd (true≢false (cc))

  pub line_faulty : {fault : Fault} → turn ≡ Err fault → Err fault ≡ comes_to (ordered && formed) limited known (make value)
  unfolding turned malformed field_read comes_to
  line_faulty {fault} bad = go ordered limited formed known (sym bad ∙ made)
    where
      go : (o l f k : Bool) → Err fault ≡ turned o l (field_read f k value) → Err fault ≡ comes_to (o && f) l k (make value)
      go true true true true e = absurd (true≢false (cc))
      go true true true false e = cc
      go true true false k e = cc
      go true false true true e = cc
      go true false true false e = cc
      go true false false k e = cc
      go false l f k e = cc

-- the fields of a line of two names
pub two_names : (first second : List Name) (a b : List ℕ) {A B : Result ℕ Fault} {both : Result (ℕ × ℕ) Fault} → A ≡ name_read first a → B ≡ name_read second b → both ≡ both_read A B
    → both ≡ field_read (is_name a && is_name b) (is_declared first a && is_declared second b) (placed first a, placed second b)
unfolding name_read
two_names first second a b hA hB are = are ∙ ap₂ both_read hA hB ∙ both_fields (is_name a) (is_declared first a) (is_name b) (is_declared second b) (placed first a) (placed second b)

-- the fields of an assign line
pub four_fields : (roles : List Name) (admin positive negative target : List ℕ) {A T : Result ℕ Fault} {P N : Result RoleSet Fault}
    {first : Result (ℕ × RoleSet) Fault} {second : Result (RoleSet × ℕ) Fault} {all : Result ((ℕ × RoleSet) × (RoleSet × ℕ)) Fault}
    → A ≡ name_read roles admin → P ≡ set_read roles positive → N ≡ set_read roles negative → T ≡ name_read roles target → first ≡ both_read A P → second ≡ both_read N T → all ≡ both_read first second
    → all
    ≡ field_read (is_name admin && is_set positive && (is_set negative && is_name target)) (is_declared roles admin && all_declared roles positive && (all_declared roles negative && is_declared roles target))
    ((placed roles admin, roles_of roles positive), (roles_of roles negative, placed roles target))
unfolding name_read set_read
four_fields roles admin positive negative target hA hP hN hT one two are =
    are
    ∙ ap₂ both_read (one ∙ ap₂ both_read hA hP ∙ both_fields (is_name admin) (is_declared roles admin) (is_set positive) (all_declared roles positive) (placed roles admin) (roles_of roles positive))
    (two ∙ ap₂ both_read hN hT ∙ both_fields (is_set negative) (all_declared roles negative) (is_name target) (is_declared roles target) (roles_of roles negative) (placed roles target))
    ∙ both_fields (is_name admin && is_set positive) (is_declared roles admin && all_declared roles positive) (is_set negative && is_name target) (all_declared roles negative && is_declared roles target)
    (placed roles admin, roles_of roles positive) (roles_of roles negative, placed roles target)

-- ---- a line by its number of fields, from the tabs that a reader finds

-- a line of no kind is malformed
pub other_judged : (c : Counts) (roles users : List Name) → Err Fault.Malformed ≡ judged c roles users other
unfolding judged asked comes_to
other_judged c roles users = refl

-- ---- the fields of a line

pub line_five : (line : List ℕ) {w a b c d : List ℕ} → split 9 line ≡ w ∷ a ∷ b ∷ c ∷ d ∷ [] → same_bytes w (bytes "assign") ≡ true → assign a b c d ≡ line_of (split 9 line)
unfolding line_of five_fields
line_five line {w} {a} {b} {c} {d} fields is = sym (ap line_of fields ∙ ap (λ (t : Bool). cond t (assign a b c d) other) is)

pub line_five_other : (line : List ℕ) {w a b c d : List ℕ} → split 9 line ≡ w ∷ a ∷ b ∷ c ∷ d ∷ [] → same_bytes w (bytes "assign") ≡ false → other ≡ line_of (split 9 line)
unfolding line_of five_fields
line_five_other line {w} {a} {b} {c} {d} fields is = sym (ap line_of fields ∙ ap (λ (t : Bool). cond t (assign a b c d) other) is)

pub line_four : (line : List ℕ) {w a b c : List ℕ} → split 9 line ≡ w ∷ a ∷ b ∷ c ∷ [] → other ≡ line_of (split 9 line)
unfolding line_of
line_four line fields = sym (ap line_of fields)

pub line_more : (line : List ℕ) {w a b c d : List ℕ} (rest : List ℕ) → split 9 line ≡ w ∷ a ∷ b ∷ c ∷ d ∷ split 9 rest → other ≡ line_of (split 9 line)
unfolding line_of
line_more line {w} {a} {b} {c} {d} rest fields =
    let some = split_piece 9 rest in
    sym (ap line_of (fields ∙ ap (λ (l : List (List ℕ)). w ∷ a ∷ b ∷ c ∷ d ∷ l) some.2))

pub line_one : (line : List ℕ) {w : List ℕ} → split 9 line ≡ w ∷ [] → one_field w ≡ line_of (split 9 line)
unfolding line_of
line_one line fields = sym (ap line_of fields)

pub line_two : (line : List ℕ) {w a : List ℕ} → split 9 line ≡ w ∷ a ∷ [] → two_fields w a ≡ line_of (split 9 line)
unfolding line_of
line_two line fields = sym (ap line_of fields)

pub line_three : (line : List ℕ) {w a b : List ℕ} → split 9 line ≡ w ∷ a ∷ b ∷ [] → three_fields w a b ≡ line_of (split 9 line)
unfolding line_of
line_three line fields = sym (ap line_of fields)

-- ---- a good line

-- A good line passes the three tests, and says the entry.
pub record GoodLine (c : Counts) (roles users : List Name) (line : Line) (e : Entry) : Type 0 where
  pub formed : (asked c roles users line).formed ≡ true
  pub within : (asked c roles users line).within ≡ true
  pub known : (asked c roles users line).known ≡ true
  pub says : (asked c roles users line).says ≡ e

-- what comes to an entry passes the tests, and says it
comes_good : (formed within known : Bool) {says e : Entry} → comes_to formed within known says ≡ Ok e → (formed ≡ true) × (within ≡ true) × (known ≡ true) × (says ≡ e)
unfolding comes_to
comes_good true true true is = (refl, refl, refl, cc)
comes_good true true false is = absurd (true≢false (cc))
comes_good true false known is = absurd (true≢false (cc))
comes_good false within known is = absurd (true≢false (cc))

pub line_good : (c : Counts) (roles users : List Name) (line : List ℕ) {e : Entry} → policy_line c roles users line ≡ Ok e → GoodLine c roles users (line_of (split 9 line)) e
unfolding policy_line judged
line_good c roles users line good =
    let a = asked c roles users (line_of (split 9 line)) in
    let (formed, within, known, says) = comes_good a.formed a.within a.known good in
    record { formed = formed; within = within; known = known; says = says }

-- There is room for the entry, and a holding's user is declared.
abbrev pub Fitting : Counts → Entry → Type 0
Fitting c Entry.Header = Unit {0}
Fitting c (Entry.Role name) = c.roles < 128
Fitting c (Entry.User name clearance) = c.users < 64
Fitting c (Entry.Has holder held) = holder < c.users
Fitting c (Entry.Assign rule) = c.assigns < 256
Fitting c (Entry.Revoke rule) = c.revokes < 256
Fitting c (Entry.Goal set) = c.goals < 32
Fitting c Entry.End = Unit {0}

entry-fits : (c : Counts) (roles users : List Name) → length users ≡ c.users → (line : Line) → (asked c roles users line).within ≡ true → (asked c roles users line).known ≡ true → Fitting c (asked c roles users line).says
unfolding asked is_declared
entry-fits c roles users many (header edition) room known = tt
entry-fits c roles users many (role name) room known = ltb-true c.roles 128 room
entry-fits c roles users many (user name clearance) room known = ltb-true c.users 64 room
entry-fits c roles users many (has holder held) room known =
    let here = ltb-true (placed users holder) (length users) ((and-eq-true_iff (is_declared users holder) (is_declared roles held)).0 known).0 in
    omega (arith, here, many)
entry-fits c roles users many (assign admin positive negative target) room known = ltb-true c.assigns 256 room
entry-fits c roles users many (revoke admin target) room known = ltb-true c.revokes 256 room
entry-fits c roles users many (goal set) room known = ltb-true c.goals 32 room
entry-fits c roles users many end room known = tt
entry-fits c roles users many other room known = tt

pub good_fits : {c : Counts} {roles users : List Name} {line : Line} {e : Entry} → length users ≡ c.users → GoodLine c roles users line e → Fitting c e
good_fits {c} {roles} {users} {line} many good = subst (Fitting c) good.says (entry-fits c roles users many line good.within good.known)
