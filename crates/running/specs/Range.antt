-- The places in a step that a line says are those of names that are known and of rules of the policy, and there is room for a new name.
use Rattle.std.specs.Prelude.{ℕ, ◌-◌, ◌≤◌, ◌<◌, true, not, ◌&&◌, List, Ok, ◌≡◌, eqb, leb, length}
use borrow.Author.Tests.{leb-true, ltb-true, le-ltb, eq-eqb}
use Rattle.std.proofs.Math.Bool.{false≢true, and-eq-true_iff}
use Rattle.std.proofs.Common.{sym, ap, ◌∙◌, arith}
use Rattle.std.proofs.Math.Path.{subst}
use Rattle.tables.specs.declared.Name.{Name}
use Rattle.text.specs.Forms.{is_name, number_of}
use Rattle.text.specs.Pieces.{split}
use Rattle.fields.specs.Fields.{placed, is_declared}
use Rattle.steps.specs.declared.Step.{Step}
use Rattle.traces.specs.declared.TraceLine.{TraceLine}
use Rattle.traces.specs.TraceLines.{Line, assign, revoke, join, leave, other, line_of, is_step, step_named, step_formed, step_known, step_within, step_said, judged, trace_line}
use Rattle.traces.specs.TraceLineLaws.{comes_good}

-- an actor, a rule and a user below their counts
pub record InRange (rules users actor rule user : ℕ) : Type 0 where
  pub acts : actor < users
  pub ruled : rule < rules
  pub used : user < users

-- and so below their limits
pub in_limits : {rules users actor rule user : ℕ} → rules ≤ 256 → users ≤ 64 → InRange rules users actor rule user → InRange 256 64 actor rule user
in_limits rules users r = record { acts = omega (arith, r.acts); ruled = omega (arith, r.ruled); used = omega (arith, r.used) }

abbrev pub Ranged : (assigns revokes users : ℕ) → Step → Type 0
Ranged assigns revokes users (Step.Assign actor rule user) = InRange assigns users actor rule user
Ranged assigns revokes users (Step.Revoke actor rule user) = InRange revokes users actor rule user
Ranged assigns revokes users (Step.Join user clearance) = Unit {0}
Ranged assigns revokes users (Step.Leave user) = user < users

-- there is room for a name that is not known
abbrev pub Room : (users : ℕ) → Step → Type 0
Room users (Step.Assign actor rule user) = Unit {0}
Room users (Step.Revoke actor rule user) = Unit {0}
Room users (Step.Join user clearance) = users ≤ user → users < 64
Room users (Step.Leave user) = Unit {0}

step_range : (rules : ℕ) (users : List Name) (actor number user : List ℕ) → is_step actor number user ≡ true → step_named rules users actor number user ≡ true
    → InRange rules (length users) (placed users actor) (number_of number - 1) (placed users user)
unfolding is_step step_named is_declared
step_range rules users actor number user formed known =
    let some = ((and-eq-true_iff (is_name actor && is_name user) (not (eqb (number_of number) 0))).0 formed).1 in
    let both = (and-eq-true_iff (is_declared users actor && is_declared users user) (leb (number_of number) rules)).0 known in
    let declared = (and-eq-true_iff (is_declared users actor) (is_declared users user)).0 both.0 in
    let positive : number_of number ≡ 0 → ⊥ = λ none. false≢true (sym (ap not (eq-eqb (number_of number) 0 none)) ∙ some) in
    record {
      acts = ltb-true _ _ declared.0;
      ruled = omega (arith, positive, leb-true (number_of number) rules both.1);
      used = ltb-true _ _ declared.1;
    }

module _ (assigns revokes : ℕ) (names : List Name) where
  said_range : (line : Line) → step_formed line ≡ true → step_known assigns revokes names line ≡ true → Ranged assigns revokes (length names) (step_said names line)
  unfolding step_formed step_known step_said is_declared
  said_range (assign actor number user) formed known = step_range assigns names actor number user formed known
  said_range (revoke actor number user) formed known = step_range revokes names actor number user formed known
  said_range (join name clearance) formed known = tt
  said_range (leave name) formed known = ltb-true _ _ known
  said_range other formed known = absurd (false≢true formed)

  said_room : (line : Line) → step_within names line ≡ true → Room (length names) (step_said names line)
  unfolding step_within step_said is_declared
  said_room (assign actor number user) within = tt
  said_room (revoke actor number user) within = tt
  said_room (join name clearance) within = λ past. ltb-true (length names) 64 (rw (le-ltb (placed names name) (length names) past) at within)
  said_room (leave name) within = tt
  said_room other within = tt

  -- A step that a line says is in range, and there is room for its name.
  pub line_range : (line : List ℕ) {read : TraceLine} → trace_line assigns revokes names line ≡ Ok read → Ranged assigns revokes (length names) read.step × Room (length names) read.step
  unfolding trace_line judged
  line_range line {read} good =
      let (formed, known, within, says) = comes_good _ _ _ _ good in
      let is : step_said names (line_of (split 9 line)) ≡ read.step = ap (λ (t : TraceLine). t.step) says in (
        subst (Ranged assigns revokes (length names)) is (said_range (line_of (split 9 line)) formed known),
        subst (Room (length names)) is (said_room (line_of (split 9 line)) within),
      )
