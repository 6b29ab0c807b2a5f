-- Roles taken out of a set from the lowest on: the set has the role, and one role fewer is left.
use Rattle.std.specs.Prelude.{ℕ, ◌≤◌, ◌<◌, true, ◌≡◌, refl, Option, Some, None, MatchOption}
use Rattle.std.proofs.Common.{ap, sym, ◌∙◌, lt-ltb, le-ltb, arith}
use Rattle.std.proofs.Math.Decide.{dec_lt}
use Rattle.roles.specs.declared.RoleSet.{RoleSet}
use Rattle.roles.specs.Sets.{has_role, without_of, lowest_role, lowest_of}
use Rattle.roles.specs.Words.{tally}
use Rattle.roles.specs.MemberLaws.{lowest_has, tally-without}

-- how many roles a set has
abbrev pub many : RoleSet → ℕ
many s = tally 128 (has_role s)

-- The role is the lowest of the set, and the rest is the set without it.
pub record TakenRole (s : RoleSet) (role : ℕ) (rest : RoleSet) : Type 0 where
  pub lowest : role ≡ lowest_role s
  pub fits : role < 128
  pub rest_is : rest ≡ without_of s role

-- There is no role to be taken.
pub record TakenNone (s rest : RoleSet) : Type 0 where
  pub none : 128 ≤ lowest_role s
  pub rest_is : rest ≡ s

-- The lowest role taken out of a set, where there is one.
abbrev pub Taken : RoleSet → Option ℕ → RoleSet → Type 0
Taken s taken rest = MatchOption taken (TakenNone s rest) (λ role. TakenRole s role rest)

module _ (left : RoleSet) {role : ℕ} (lowest : role ≡ lowest_role left) (fits : role < 128) where
  pub taken_held : has_role left role ≡ true
  taken_held = ap (has_role left) lowest ∙ lowest_has left (rw lowest at fits)

pub taken_fewer : {s rest : RoleSet} {role : ℕ} → TakenRole s role rest → many rest < many s
taken_fewer {s} {rest} {role} taken = rw taken.rest_is (omega (arith, tally-without s role (taken_held s taken.lowest taken.fits)))

-- ---- the lowest role, where there is one

module _ (s : RoleSet) where
  pub lowest_some : {role : ℕ} → role ≡ lowest_role s → role < 128 → Some role ≡ lowest_of s
  unfolding lowest_of
  lowest_some {role} is fits = rw (sym is, lt-ltb role 128 fits)

  pub lowest_nothing : 128 ≤ lowest_role s → None ≡ lowest_of s
  unfolding lowest_of
  lowest_nothing over = rw (le-ltb (lowest_role s) 128 over)

  pub taken_some : {role : ℕ} {rest : RoleSet} → Some role ≡ lowest_of s → rest ≡ without_of s role → TakenRole s role rest
  taken_some {role} {rest} is without = go (dec_lt (lowest_role s) 128)
    where
      go : Dec (lowest_role s < 128) → TakenRole s role rest
      go (yes fits) =
          let found = lowest_some refl fits in
          let same : role ≡ lowest_role s = cc in
          record { lowest = same; fits = rw same fits; rest_is = without }
      go (no over) =
          let nothing = lowest_nothing (omega (arith, over)) in
          absurd (cc)

  pub taken_none : None ≡ lowest_of s → TakenNone s s
  taken_none is = go (dec_lt (lowest_role s) 128)
    where
      go : Dec (lowest_role s < 128) → TakenNone s s
      go (yes fits) =
          let found = lowest_some refl fits in
          absurd (cc)
      go (no over) = record { none = omega (arith, over); rest_is = refl }
