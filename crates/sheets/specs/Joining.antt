-- The sets that the members of a set have as their own, joined: none, one member at a time, and without those joined before.
use Prim.Native.Nat.{ℕ, zero, suc, ◌<◌}
use Rattle.std.proofs.Math.Bool.{Bool, true, false, and-true}
use Rattle.std.specs.Prelude.{not, ◌&&◌, ◌≡◌}
use Rattle.std.proofs.Math.Path.{refl, sym, ap, ap₂}
use Rattle.std.proofs.Common.{◌∙◌, eq-eqb, ne_eqb, arith}
use Rattle.std.proofs.Math.Decide.{dec_lt}
use Rattle.roles.specs.declared.RoleSet.{RoleSet}
use Rattle.roles.specs.Sets.{empty_set, has_role, union_of, apart_of, without_of}
use Rattle.roles.specs.MemberLaws.{has_apart, has_without, union_comm, union_assoc, union_self, union_empty, lowest_none}
use Rattle.sheets.specs.Turned.{add_own, sets_below, sets_of}
use Rattle.roles.specs.Taking.{TakenRole, TakenNone, taken_held}

-- ---- a role's own set is added to either part of a union

module _ (own : ℕ → RoleSet) (role : ℕ) where
  add_right : (test : Bool) (s t : RoleSet) → union_of s (add_own test own role t) ≡ add_own test own role (union_of s t)
  unfolding add_own
  add_right true s t = sym (union_assoc s t (own role))
  add_right false s t = refl

  add_left : (test : Bool) (s t : RoleSet) → union_of (add_own test own role s) t ≡ add_own test own role (union_of s t)
  add_left test s t = union_comm (add_own test own role s) t ∙ add_right test t s ∙ ap (add_own test own role) (union_comm t s)

  -- what is added already need not be added again
  add_fresh : (before test : Bool) (s : RoleSet) → add_own before own role (add_own (test && not before) own role s) ≡ add_own before own role (add_own test own role s)
  unfolding add_own
  add_fresh true true s = sym (union_assoc s (own role) (own role) ∙ ap (union_of s) (union_self (own role)))
  add_fresh true false s = refl
  add_fresh false true s = refl
  add_fresh false false s = refl

-- ---- members below a number

module _ (own : ℕ → RoleSet) where
  none_below : (bound : ℕ) (members : RoleSet) → ((role : ℕ) → has_role members role ≡ false) → sets_below bound own members ≡ empty_set
  unfolding sets_below add_own
  none_below zero members none = refl
  none_below (suc bound) members none = rw (none bound) (none_below bound members none)

  same_below : (bound : ℕ) (s t : RoleSet) → ((role : ℕ) → role < bound → has_role s role ≡ has_role t role) → sets_below bound own s ≡ sets_below bound own t
  unfolding sets_below
  same_below zero s t same = refl
  same_below (suc bound) s t same =
      ap₂ (λ (test : Bool) (u : RoleSet). add_own test own bound u) (same bound (omega arith)) (same_below bound s t (λ role h. same role (omega arith)))

  fresh_below : (bound : ℕ) (s before : RoleSet)
      → union_of (sets_below bound own before) (sets_below bound own (apart_of s before)) ≡ union_of (sets_below bound own before) (sets_below bound own s)
  unfolding sets_below
  fresh_below zero s before = refl
  fresh_below (suc bound) s before =
      both (has_role (apart_of s before) bound) (sets_below bound own (apart_of s before))
      ∙ ap₂ (λ (test : Bool) (u : RoleSet). add_own old own bound (add_own test own bound u)) (has_apart s before bound) (fresh_below bound s before)
      ∙ add_fresh own bound old (has_role s bound) (union_of joined (sets_below bound own s))
      ∙ sym (both (has_role s bound) (sets_below bound own s))
    where
      old : Bool
      old = has_role before bound

      joined : RoleSet
      joined = sets_below bound own before

      both : (test : Bool) (u : RoleSet) → union_of (add_own old own bound joined) (add_own test own bound u) ≡ add_own old own bound (add_own test own bound (union_of joined u))
      both test u = add_left own bound old joined (add_own test own bound u) ∙ ap (add_own old own bound) (add_right own bound test joined u)

-- one member taken out of its set, and its own set joined to those of the others
module _ (own : ℕ → RoleSet) (members : RoleSet) (role : ℕ) (fits : role < 128) (held : has_role members role ≡ true) where
  other_stays : (other : ℕ) → (role ≡ other → ⊥) → has_role members other ≡ has_role (without_of members role) other
  other_stays other differs =
      sym (has_without members role other fits ∙ ap (λ (test : Bool). has_role members other && not test) (ne_eqb role other differs) ∙ and-true (has_role members other))

  itself_gone : has_role (without_of members role) role ≡ false
  itself_gone = has_without members role role fits ∙ ap₂ (λ (a b : Bool). a && not b) held (eq-eqb role role refl)

  step_below : (bound : ℕ) → role < bound → sets_below bound own members ≡ union_of (own role) (sets_below bound own (without_of members role))
  unfolding sets_below add_own
  step_below zero h = absurd (omega arith)
  step_below (suc bound) h = go (dec_lt role bound) (step_below bound)
    where
      joined : RoleSet
      joined = sets_below bound own members

      rest : RoleSet
      rest = sets_below bound own (without_of members role)

      go : Dec (role < bound) → (role < bound → joined ≡ union_of (own role) rest)
          → add_own (has_role members bound) own bound joined ≡ union_of (own role) (add_own (has_role (without_of members role) bound) own bound rest)
      go (yes lt) below =
          ap₂ (λ (test : Bool) (u : RoleSet). add_own test own bound u) (other_stays bound (λ e. absurd (omega arith))) (below lt)
          ∙ sym (add_right own bound (has_role (without_of members role) bound) (own role) rest)
      go (no nl) below =
          let last : bound ≡ role = omega arith in
          ap (λ (k : ℕ). add_own (has_role members k) own k joined) last ∙ ap (λ (test : Bool). add_own test own role joined) held
          ∙ union_comm joined (own role)
          ∙ ap (union_of (own role)) (same_below own bound members (without_of members role) (λ other lt. other_stays other (λ e. absurd (omega arith)))
          ∙ sym (ap (λ (k : ℕ). add_own (has_role (without_of members role) k) own k rest) last ∙ ap (λ (test : Bool). add_own test own role rest) itself_gone))

pub sets_none : (own : ℕ → RoleSet) (members : RoleSet) → ((role : ℕ) → has_role members role ≡ false) → sets_of own members ≡ empty_set
unfolding sets_of
sets_none own members none = none_below own 128 members none

pub sets_step : (own : ℕ → RoleSet) (members : RoleSet) (role : ℕ) → role < 128 → has_role members role ≡ true → sets_of own members ≡ union_of (own role) (sets_of own (without_of members role))
unfolding sets_of
sets_step own members role fits held = step_below own members role fits held 128 fits

pub sets_fresh : (own : ℕ → RoleSet) (s before : RoleSet) → union_of (sets_of own before) (sets_of own (apart_of s before)) ≡ union_of (sets_of own before) (sets_of own s)
unfolding sets_of
sets_fresh own s before = fresh_below own 128 s before

-- ---- the members gone through from the lowest on: the whole is what is joined so far with the sets of those that are left

module _ (own : ℕ → RoleSet) where
  pub joined_start : (members : RoleSet) {all : RoleSet} → all ≡ empty_set → sets_of own members ≡ union_of all (sets_of own members)
  joined_start members none = rw none (sym (union_comm empty_set (sets_of own members) ∙ union_empty (sets_of own members)))

  module _ {whole : RoleSet} (all left : RoleSet) (so_far : whole ≡ union_of all (sets_of own left)) where
    pub joined_end : {rest : RoleSet} → TakenNone left rest → all ≡ whole
    joined_end last =
        sym (so_far ∙ ap (union_of all) (sets_none own left (lowest_none left last.none)) ∙ union_empty all)

    pub joined_step : {role : ℕ} {more next rest : RoleSet} → TakenRole left role rest → more ≡ own role → next ≡ union_of all more
        → whole ≡ union_of next (sets_of own rest)
    joined_step {role} taken is-own grown =
        so_far ∙ ap (union_of all) (sets_step own left role taken.fits (taken_held left taken.lowest taken.fits)) ∙ sym (union_assoc all (own role) (sets_of own (without_of left role)))
        ∙ sym (ap₂ (λ (s t : RoleSet). union_of s (sets_of own t)) (grown ∙ ap (union_of all) is-own) taken.rest_is)
