-- The line that is written for an entry is judged good and adds the entry: each kind of line, and what it needs.
use Prim.Native.Nat.{ℕ, ◌≤◌, ◌<◌}
use Rattle.std.specs.Prelude.{Bool, cond, ◌&&◌, ◌≡◌, eqb, length}
use Rattle.std.proofs.Math.Bool.{true, false, not}
use mathlib.Core.List.{List, [], ◌∷◌, ◌++◌}
use Rattle.std.proofs.Math.Path.{refl, ap}
use Rattle.std.proofs.Common.{sym, ap₂, ◌∙◌, arith}
use borrow.Author.Tests.{lt-ltb, le-ltb, le-leb, eq-eqb}
use Rattle.roles.specs.declared.RoleSet.{RoleSet}
use Rattle.roles.specs.Sets.{empty_set, has_role}
use Rattle.model.specs.declared.Assign.{Assign}
use Rattle.model.specs.declared.Revoke.{Revoke}
use Rattle.model.specs.Policy.{person, assigning}
use Rattle.text.specs.Forms.{bytes, every, names_of}
use Rattle.text.specs.Pieces.{split, onto, same_bytes}
use Rattle.tables.specs.declared.Name.{Name}
use Rattle.tables.specs.Names.{place_of, name_at}
use Rattle.tables.specs.Named.{Spelt, Named}
use Rattle.fields.specs.Fields.{placed, is_declared, roles_from, roles_of}
use Rattle.fields.specs.Roles.{Inside}
use Rattle.walking.specs.Texts.{goes, ends, bad}
use Rattle.walking.specs.Turns.{test, in_turn}
use Rattle.walking.specs.TurnLaws.{turn_passes}
use Rattle.lines.specs.declared.Entry.{Entry}
use Rattle.lines.specs.Lines.{Line, one_field, two_fields, three_fields, five_fields, line_of, asked, tests, in_order, header_kind, role_kind, user_kind, has_kind, assign_kind, revoke_kind, goal_kind, end_kind}
use Rattle.reading.specs.Policy.{Said, nothing, counts_of, kind_of, added, is_new, leads, line_asked, line_tests, judge_line}
use Rattle.reading.specs.Sound.{AssignOver, RevokeOver}
use Rattle.writing.specs.Written.{spelled}
use Rattle.showing.specs.Fields.{field}
use Rattle.spelling.specs.TypingText.{set_text, label_text}
use Rattle.inscribing.specs.LineText.{line_text}
use Rattle.rereading.specs.Cuts.{free, free_name}
use Rattle.rereading.specs.Joined.{Apart}
use Rattle.rereading.specs.Standing.{spelled_form, spelled_back, spelled-placed}
use Rattle.rereading.specs.Sets.{set_form, set_declared, set_free, set_back}
use Rattle.rereading.specs.Rows.{tab, newline, label_name, label_form, label_back}
use Rattle.reviewing.specs.Fields.{two_pieces, three_pieces, five_pieces, free_more}
use Rattle.reviewing.specs.Names.{name_free, at_form, at_placed, at_declared, at_free}

-- A line that is good where it stands: it is one line, and leads on to what was said with its entry added.
pub record Taken (roles users : List Name) (s : Said) (e : Entry) : Type 0 where
  pub unbroken : free 10 (line_text roles users e) ≡ true
  pub adds : judge_line s (line_text roles users e) ≡ goes (added s e)

-- The stage is that of the header or of a later kind, up to a kind: a line of that kind may follow.
pub record Ready (s : Said) (kind : ℕ) : Type 0 where
  pub least : header_kind ≤ s.stage
  pub most : s.stage ≤ kind

ready_order : {s : Said} {kind : ℕ} → Ready s kind → in_order s.stage kind ≡ true
unfolding in_order
ready_order {s} {kind} ready = ap₂ ◌&&◌ (le-leb header_kind s.stage ready.least) (le-leb s.stage kind ready.most)

-- ---- a line by what it is split into

-- a line that passes its tests, says an entry other than `end`, and is new
good_line : (s : Said) (line : List ℕ) {f : Line} {e : Entry} → line_of (split 9 line) ≡ f → (asked (counts_of s) s.roles s.users f).formed ≡ true
    → (asked (counts_of s) s.roles s.users f).within ≡ true → (asked (counts_of s) s.roles s.users f).known ≡ true → (asked (counts_of s) s.roles s.users f).says ≡ e
    → is_new s.holdings e ≡ true → eqb (kind_of e) end_kind ≡ false → judge_line s line ≡ goes (added s e)
unfolding judge_line line_tests line_asked tests leads
good_line s line {f} {e} is formed within known says new on =
    ap (λ (x : Line). in_turn bad (tests (asked (counts_of s) s.roles s.users x).formed (asked (counts_of s) s.roles s.users x).within (asked (counts_of s) s.roles s.users x).known ++ (test 11 (is_new s.holdings (asked (counts_of s) s.roles s.users x).says) ∷ [])) (leads s (asked (counts_of s) s.roles s.users x).says)) is
    ∙ turn_passes bad _ _ (formed, (within, (known, (ap (is_new s.holdings) says ∙ new, tt))))
    ∙ ap (leads s) says ∙ ap (λ (b : Bool). cond b ends (goes (added s e))) on

-- ---- the header and the end

-- The header is good before the first line,
pub header_taken : (roles users : List Name) → Taken roles users nothing Entry.Header
unfolding line_text field free every judge_line line_tests line_asked line_of split onto two_fields same_bytes asked counts_of nothing tests in_turn is_new leads kind_of added
header_taken roles users = record { unbroken = refl; adds = refl }

-- and `end` after a goal.
pub end_free : (roles users : List Name) → free 10 (line_text roles users Entry.End) ≡ true
unfolding line_text free every
end_free roles users = refl

pub end_ends : (roles users : List Name) (s : Said) → s.stage ≡ goal_kind → judge_line s (line_text roles users Entry.End) ≡ ends
unfolding line_text judge_line line_tests line_asked line_of split onto one_field same_bytes asked counts_of tests is_new leads kind_of
end_ends roles users s last = turn_passes bad _ _ (eq-eqb s.stage goal_kind last, (refl, (refl, (refl, tt))))

-- ---- a role and a user

module _ (roles users : List Name) (s : Said) {name : Name} (spelt : Spelt name) where
  -- A role's name is new, and there is room.
  pub role_taken : Ready s role_kind → length s.roles ≤ place_of s.roles name → length s.roles < 128 → Taken roles users s (Entry.Role name)
  unfolding line_text free every line_of split onto two_fields same_bytes asked counts_of is_new kind_of is_declared
  role_taken ready new room = record {
    unbroken = free_more (bytes "role") (spelled name) refl (name_free newline spelt);
    adds =
        good_line s (line_text roles users (Entry.Role name)) (ap line_of (two_pieces {word = bytes "role"} refl (name_free tab spelt)))
        (rw (ready_order ready, spelled_form spelt, le-ltb (placed s.roles (spelled name)) (length s.roles) (omega (arith, spelled-placed s.roles spelt, new))))
        (lt-ltb (length s.roles) 128 room) refl (ap Entry.Role (spelled_back spelt)) refl refl;
  }

  -- So is a user's.
  pub user_taken : Ready s user_kind → (clearance : Bool) → length s.users ≤ place_of s.users name → length s.users < 64 → Taken roles users s (Entry.User name clearance)
  unfolding line_text free every line_of split onto three_fields same_bytes asked counts_of is_new kind_of is_declared
  user_taken ready clearance new room = record {
    unbroken = free_more (bytes "user" ++ field (spelled name)) (label_text clearance) (free_more (bytes "user") (spelled name) refl (name_free newline spelt)) (label_free newline);
    adds =
        good_line s (line_text roles users (Entry.User name clearance)) (ap line_of (three_pieces {word = bytes "user"} refl (name_free tab spelt) (label_free tab)))
        (rw (ready_order ready, spelled_form spelt, label_form clearance, le-ltb (placed s.users (spelled name)) (length s.users) (omega (arith, spelled-placed s.users spelt, new))))
        (lt-ltb (length s.users) 64 room) refl (ap₂ Entry.User (spelled_back spelt) (label_back clearance)) refl refl;
  }
    where
      label_free : {mark : ℕ} → Apart mark → free mark (label_text clearance) ≡ true
      label_free {mark} apart = free_name mark (label_text clearance) apart.letter (label_name clearance)

-- ---- what names roles and users

module _ (s : Said) (roles : Named s.roles) (users : Named s.users) where
  -- A declared user does not hold a declared role yet.
  pub has_taken : {user role : ℕ} → Ready s has_kind → user < length s.users → role < length s.roles → has_role (person s.holdings user).roles role ≡ false
      → Taken s.roles s.users s (Entry.Has user role)
  unfolding line_text free every line_of split onto three_fields same_bytes asked counts_of is_new kind_of
  has_taken {user} {role} ready listed declared new = record {
    unbroken = free_more (bytes "has" ++ field holder) held (free_more (bytes "has") holder refl (at_free users listed newline)) (at_free roles declared newline);
    adds =
        good_line s (line_text s.roles s.users (Entry.Has user role)) (ap line_of (three_pieces {word = bytes "has"} refl (at_free users listed tab) (at_free roles declared tab)))
        (rw (ready_order ready, at_form users listed, at_form roles declared)) refl (rw (at_declared users listed, at_declared roles declared))
        (ap₂ Entry.Has (at_placed users listed) (at_placed roles declared)) (ap not new) refl;
  }
    where
      holder : List ℕ
      holder = spelled (name_at s.users user)

      held : List ℕ
      held = spelled (name_at s.roles role)

  -- A rule names declared roles, and there is room.
  pub assign_taken : {rule : Assign} → Ready s assign_kind → AssignOver (length s.roles) rule → length s.assigns < 256 → Taken s.roles s.users s (Entry.Assign rule)
  unfolding line_text free every line_of split onto five_fields same_bytes asked counts_of is_new kind_of
  assign_taken {rule} ready over room = record {
    unbroken =
        free_more (bytes "assign" ++ field admin ++ field positive ++ field negative) target
        (free_more (bytes "assign" ++ field admin ++ field positive) negative
        (free_more (bytes "assign" ++ field admin) positive (free_more (bytes "assign") admin refl (at_free roles over.admin newline)) (set_free roles rule.positive newline))
        (set_free roles rule.negative newline))
        (at_free roles over.target newline);
    adds =
        good_line s (line_text s.roles s.users (Entry.Assign rule))
        (ap line_of (five_pieces {word = bytes "assign"} refl (at_free roles over.admin tab) (set_free roles rule.positive tab) (set_free roles rule.negative tab) (at_free roles over.target tab)))
        (rw (ready_order ready, at_form roles over.admin, set_form roles rule.positive, set_form roles rule.negative, at_form roles over.target))
        (lt-ltb (length s.assigns) 256 room)
        (rw (at_declared roles over.admin, set_declared roles rule.positive, set_declared roles rule.negative, at_declared roles over.target))
        (λ i. Entry.Assign (assigning (at_placed roles over.admin i) (set_back roles rule.positive over.positive i) (set_back roles rule.negative over.negative i) (at_placed roles over.target i)))
        refl refl;
  }
    where
      admin : List ℕ
      admin = spelled (name_at s.roles rule.admin)

      positive : List ℕ
      positive = set_text s.roles rule.positive

      negative : List ℕ
      negative = set_text s.roles rule.negative

      target : List ℕ
      target = spelled (name_at s.roles rule.target)

  pub revoke_taken : {rule : Revoke} → Ready s revoke_kind → RevokeOver (length s.roles) rule → length s.revokes < 256 → Taken s.roles s.users s (Entry.Revoke rule)
  unfolding line_text free every line_of split onto three_fields same_bytes asked counts_of is_new kind_of
  revoke_taken {rule} ready over room = record {
    unbroken = free_more (bytes "revoke" ++ field admin) target (free_more (bytes "revoke") admin refl (at_free roles over.admin newline)) (at_free roles over.target newline);
    adds =
        good_line s (line_text s.roles s.users (Entry.Revoke rule)) (ap line_of (three_pieces {word = bytes "revoke"} refl (at_free roles over.admin tab) (at_free roles over.target tab)))
        (rw (ready_order ready, at_form roles over.admin, at_form roles over.target)) (lt-ltb (length s.revokes) 256 room) (rw (at_declared roles over.admin, at_declared roles over.target))
        (λ i. Entry.Revoke (record { admin = at_placed roles over.admin i; target = at_placed roles over.target i })) refl refl;
  }
    where
      admin : List ℕ
      admin = spelled (name_at s.roles rule.admin)

      target : List ℕ
      target = spelled (name_at s.roles rule.target)

  -- a set with a role is not written as `-`
  not_none : (goal : RoleSet) → Inside (length s.roles) goal → (goal ≡ empty_set → ⊥) → (b : Bool) → same_bytes (set_text s.roles goal) (bytes "-") ≡ b → not b ≡ true
  unfolding roles_of names_of roles_from
  not_none goal inside some true same = absurd (some (sym (set_back roles goal inside) ∙ ap (λ (b : Bool). roles_from s.roles empty_set (cond b [] (split 44 (set_text s.roles goal)))) same))
  not_none goal inside some false same = refl

  -- A goal has a role and declared roles only, and there is room.
  pub goal_taken : {goal : RoleSet} → Ready s goal_kind → Inside (length s.roles) goal → (goal ≡ empty_set → ⊥) → length s.goals < 32 → Taken s.roles s.users s (Entry.Goal goal)
  unfolding line_text free every line_of split onto two_fields same_bytes asked counts_of is_new kind_of
  goal_taken {goal} ready inside some room = record {
    unbroken = free_more (bytes "goal") (set_text s.roles goal) refl (set_free roles goal newline);
    adds =
        good_line s (line_text s.roles s.users (Entry.Goal goal)) (ap line_of (two_pieces {word = bytes "goal"} refl (set_free roles goal tab)))
        (rw (ready_order ready, not_none goal inside some (same_bytes (set_text s.roles goal) (bytes "-")) refl, set_form roles goal)) (lt-ltb (length s.goals) 32 room) (set_declared roles goal)
        (ap Entry.Goal (set_back roles goal inside)) refl refl;
  }
