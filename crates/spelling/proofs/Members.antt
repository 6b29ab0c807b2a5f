-- A set's text, member by member from the lowest on: what is passed of it, and what is left.
use Rattle.std.specs.Prelude.{ℕ, ◌+◌, ◌*◌, ◌≤◌, ◌<◌, Bool, true, false, not, ◌&&◌, List, ◌≡◌, refl, eqb, length, drop}
use Rattle.std.proofs.Math.Bool.{or-true}
use Rattle.std.proofs.lemmas.Bool.{false≢true}
use Rattle.std.proofs.Common.{sym, ap, ◌∙◌, ne_eqb, eq-eqb, arith}
use Rattle.std.proofs.Math.Decide.{dec_lt}
use Rattle.roles.specs.declared.RoleSet.{RoleSet}
use Rattle.roles.specs.Sets.{has_role, lowest_role}
use Rattle.roles.specs.MemberLaws.{has_without, lowest_least}
use Rattle.roles.specs.Taking.{TakenRole, taken_held}
use Rattle.tables.specs.declared.Name.{Name}
use Rattle.tables.specs.Names.{row_of}
use Rattle.spelling.specs.Growth.{counted}
use Rattle.spelling.specs.TypingPieces.{member_text}
use Rattle.spelling.proofs.TypingSteps.{some_below, set_below, member_at, member_at_lem, some_start, some_next, some_same, set_same, set_grows}

-- The roles below a place are passed, and of the others all are left.
pub record SetPassed (table : List ℕ) (count : ℕ) (set : RoleSet) (from : ℕ) (left : RoleSet) (some : Bool) : Type 0 where
  pub within : from ≤ count
  pub gone : (k : ℕ) → k < from → has_role left k ≡ false
  pub same : (k : ℕ) → from ≤ k → has_role left k ≡ has_role set k
  pub told : some ≡ some_below table set from

module _ (table : List ℕ) (count : ℕ) (set : RoleSet) where
  pub passed_start : SetPassed table count set 0 set false
  passed_start = record { within = omega arith; gone = λ k below. absurd (omega arith); same = λ k past. refl; told = some_start table set }

  module _ {from : ℕ} {left : RoleSet} {some : Bool} (p : SetPassed table count set from left some) where
    -- there is no member between what is passed and the lowest one left
    clear : (k : ℕ) → from ≤ k → k < lowest_role left → has_role set k ≡ false
    clear k past below = sym (p.same k past) ∙ lowest_least left k below

    module _ {role : ℕ} {rest : RoleSet} (taken : TakenRole left role rest) (here : role < count) where
      held : has_role left role ≡ true
      held = taken_held left taken.lowest taken.fits

      reached : from ≤ role
      reached = go (dec_lt role from)
        where
          go : Dec (role < from) → from ≤ role
          go (yes below) = absurd (false≢true (sym (p.gone role below) ∙ held))
          go (no past) = omega (arith, past)

      none_between : (k : ℕ) → from ≤ k → k < role → has_role set k ≡ false
      none_between k past below = clear k past (omega (arith, taken.lowest, below))

      -- The next role is a member,
      pub is_member : has_role set role ≡ true
      is_member = sym (p.same role reached) ∙ held

      -- and nothing is added up to it.
      pub up_to : set_below table set from ≡ set_below table set role
      up_to = set_same table set from role reached none_between

      pub told_here : some ≡ some_below table set role
      told_here = p.told ∙ some_same table set from role reached none_between

      -- So its text is what the role adds,
      pub added : {name : Name} → name ≡ row_of (drop (4 * role) table) → member_text some true name ≡ member_at table set role
      added named = member_at_lem table set role told_here (sym is_member) named

      -- and counts as that.
      pub counted_next : {name : Name} {at more : ℕ} → name ≡ row_of (drop (4 * role) table) → at ≡ length (set_below table set from) → more ≡ length (member_text some true name)
          → at + more ≡ length (set_below table set (role + 1))
      counted_next named place size = counted (set_grows table set) role (place ∙ ap length up_to) (size ∙ ap length (added named))

      rest_gone : (k : ℕ) → k < role + 1 → has_role rest k ≡ false
      rest_gone k below = go (dec_lt k role)
        where
          without : has_role rest k ≡ (has_role left k && not (eqb role k))
          without = ap (λ (s : RoleSet). has_role s k) taken.rest_is ∙ has_without left role k taken.fits

          both : (b : Bool) → (b && not true) ≡ false
          both true = refl
          both false = refl

          go : Dec (k < role) → has_role rest k ≡ false
          go (yes earlier) = without ∙ ap (λ (b : Bool). b && not (eqb role k)) (lowest_least left k (omega (arith, taken.lowest, earlier)))
          go (no past) = without ∙ ap (λ (b : Bool). has_role left k && not b) (eq-eqb role k (omega (arith, past, below))) ∙ both (has_role left k)

      rest_same : (k : ℕ) → role + 1 ≤ k → has_role rest k ≡ has_role set k
      rest_same k past =
          ap (λ (s : RoleSet). has_role s k) taken.rest_is ∙ has_without left role k taken.fits ∙ ap (λ (b : Bool). has_role left k && not b) (ne_eqb role k (λ e. omega (arith, e, past)))
          ∙ kept (has_role left k) ∙ p.same k (omega (arith, reached, past))
        where
          kept : (b : Bool) → (b && not false) ≡ b
          kept true = refl
          kept false = refl

      -- The members left are those past it.
      pub passed_next : SetPassed table count set (role + 1) rest true
      passed_next = record { within = omega (arith, here); gone = rest_gone; same = rest_same; told = sym (or-true some) ∙ some_next table set role told_here (sym is_member) }

    -- Past the last member the text is that of all roles.
    pub passed_end : count ≤ lowest_role left → (some ≡ some_below table set count) × (set_below table set from ≡ set_below table set count)
    passed_end last =
        let none : (k : ℕ) → from ≤ k → k < count → has_role set k ≡ false = λ k past below. clear k past (omega (arith, below, last)) in
        (p.told ∙ some_same table set from count p.within none, set_same table set from count p.within none)
