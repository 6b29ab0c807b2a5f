-- Which roles the sets of a typing turned round have, and that their words stay words of 64 bits.
use Rattle.std.specs.Prelude.{ℕ, zero, suc, ◌≤◌, ◌<◌, Bool, true, false, ◌⊎◌, ◌↔◌, ◌≡◌, refl}
use Rattle.std.proofs.Common.{inl, inr, ⊎_elim, arith}
use Rattle.std.proofs.Math.Decide.{dec_lt}
use Rattle.roles.specs.declared.RoleSet.{RoleSet}
use Rattle.roles.specs.Sets.{has_role, single_of}
use Rattle.roles.specs.Members.{◌∈◌, Sized}
use Rattle.roles.specs.MemberLaws.{below, union_cases, union_left, union_right, single_own, single_only, empty_none, empty_sized, union_sized, single_sized}
use Rattle.sheets.specs.Turned.{add_if, add_own, roles_below, sets_below, sets_of}

-- a number below the next one is below this one, or it is this one
last_or : {k n : ℕ} → k < suc n → (k < n) ⊎ (k ≡ n)
last_or {k} {n} h = go (dec_lt k n)
  where
    go : Dec (k < n) → (k < n) ⊎ (k ≡ n)
    go (yes lt) = inl lt
    go (no ge) = inr (omega arith)

-- ---- the roles below a number that pass a test

-- a role of the new set was in the old one, or it is one of those that were added, and the test holds
add_cases : {role : ℕ} (test : Bool) (more s : RoleSet) → role ∈ add_if test more s → (role ∈ s) ⊎ ((test ≡ true) × (role ∈ more))
unfolding add_if
add_cases true more s h = ⊎_elim inl (λ new. inr (refl, new)) (union_cases s more h)
add_cases false more s h = inl h

add_old : {role : ℕ} {s : RoleSet} (test : Bool) (more : RoleSet) → role ∈ s → role ∈ add_if test more s
unfolding add_if
add_old true more h = union_left more h
add_old false more h = h

add_new : {role : ℕ} {test : Bool} {more : RoleSet} (s : RoleSet) → test ≡ true → role ∈ more → role ∈ add_if test more s
unfolding add_if
add_new s holds h = rw holds (union_right s h)

pub below_exact : (n : ℕ) → n ≤ 128 → (test : ℕ → Bool) (role : ℕ) → role ∈ roles_below n test ↔ ((role < n) × (test role ≡ true))
unfolding roles_below
below_exact zero limit test role = (λ m. absurd (empty_none m), λ (lt, passes). absurd (omega arith))
below_exact (suc n) limit test role =
    let rest = below_exact n (omega arith) test role in (
      λ m.
          ⊎_elim (λ old. (omega (arith, (rest.0 old).0), (rest.0 old).1))
          (λ (passes, own). (omega (arith, single_only own), rw (single_only own) passes)) (add_cases (test n) (single_of n) (roles_below n test) m),
      λ (lt, passes).
          ⊎_elim (λ less. add_old (test n) (single_of n) (rest.1 (less, passes)))
          (λ same. add_new (roles_below n test) (rw same at passes) (rw same (single_own (omega arith)))) (last_or lt),
    )

-- ---- the sets of a set's members

-- a member brings the role
pub record Brings (own : ℕ → RoleSet) (members : RoleSet) (role : ℕ) : Type 0 where
  pub member : ℕ
  pub is_member : member ∈ members
  pub brings : role ∈ own member

-- a role of the new set was in the old one, or a role whose own set was added brings it
own_cases : {role : ℕ} (test : Bool) (own : ℕ → RoleSet) (member : ℕ) (s : RoleSet) → role ∈ add_own test own member s → (role ∈ s) ⊎ ((test ≡ true) × (role ∈ own member))
unfolding add_own
own_cases true own member s h = ⊎_elim inl (λ new. inr (refl, new)) (union_cases s (own member) h)
own_cases false own member s h = inl h

own_old : {role : ℕ} {s : RoleSet} (test : Bool) (own : ℕ → RoleSet) (member : ℕ) → role ∈ s → role ∈ add_own test own member s
unfolding add_own
own_old true own member h = union_left (own member) h
own_old false own member h = h

own_new : {role : ℕ} {test : Bool} (own : ℕ → RoleSet) (member : ℕ) (s : RoleSet) → test ≡ true → role ∈ own member → role ∈ add_own test own member s
unfolding add_own
own_new own member s holds h = rw holds (union_right s h)

sets_told : (n : ℕ) (own : ℕ → RoleSet) (members : RoleSet) (role : ℕ) → role ∈ sets_below n own members → Brings own members role
unfolding sets_below
sets_told zero own members role m = absurd (empty_none m)
sets_told (suc n) own members role m =
    ⊎_elim (sets_told n own members role) (λ (has, brought). record { member = n; is_member = record { found = has }; brings = brought })
    (own_cases (has_role members n) own n (sets_below n own members) m)

sets_tests : (n : ℕ) (own : ℕ → RoleSet) (members : RoleSet) (role : ℕ) (brought : Brings own members role) → brought.member < n → role ∈ sets_below n own members
unfolding sets_below
sets_tests zero own members role brought lt = absurd (omega arith)
sets_tests (suc n) own members role brought lt =
    ⊎_elim (λ less. own_old (has_role members n) own n (sets_tests n own members role brought less))
    (λ same. own_new own n (sets_below n own members) (rw same at brought.is_member.found) (rw same at brought.brings)) (last_or lt)

pub sets_exact : (own : ℕ → RoleSet) (members : RoleSet) (role : ℕ) → role ∈ sets_of own members ↔ Brings own members role
unfolding sets_of
sets_exact own members role = (sets_told 128 own members role, λ brought. sets_tests 128 own members role brought (below brought.is_member))

-- ---- words of 64 bits

add_sized : {s more : RoleSet} (test : Bool) → Sized more → Sized s → Sized (add_if test more s)
unfolding add_if
add_sized true sized old = union_sized old sized
add_sized false sized old = old

own_sized : {s : RoleSet} (test : Bool) (own : ℕ → RoleSet) (member : ℕ) → Sized (own member) → Sized s → Sized (add_own test own member s)
unfolding add_own
own_sized true own member sized old = union_sized old sized
own_sized false own member sized old = old

pub below_sized : (n : ℕ) (test : ℕ → Bool) → Sized (roles_below n test)
unfolding roles_below
below_sized zero test = empty_sized
below_sized (suc n) test = add_sized (test n) (single_sized n) (below_sized n test)

sets_below_sized : (n : ℕ) (own : ℕ → RoleSet) → ((role : ℕ) → Sized (own role)) → (members : RoleSet) → Sized (sets_below n own members)
unfolding sets_below
sets_below_sized zero own sized members = empty_sized
sets_below_sized (suc n) own sized members = own_sized (has_role members n) own n (sized n) (sets_below_sized n own sized members)

pub sets_sized : (own : ℕ → RoleSet) → ((role : ℕ) → Sized (own role)) → (members : RoleSet) → Sized (sets_of own members)
unfolding sets_of
sets_sized own sized members = sets_below_sized 128 own sized members
