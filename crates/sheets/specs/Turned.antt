-- What a typing says, turned round as the rules ask for it: beside each role's own sets, whose sets name it.
use Rattle.std.specs.Prelude.{ℕ, zero, suc, min, Bool, true, false, cond, ltb}
use Rattle.roles.specs.declared.RoleSet.{RoleSet}
use Rattle.roles.specs.Sets.{empty_set, has_role, single_of, union_of}
use Rattle.model.specs.declared.Typing.{Typing as Table}
use Rattle.model.specs.Meaning.{meaning}

-- the set with the roles of another where the test holds, and as it is where it does not
unfoldable pub add_if : Bool → RoleSet → RoleSet → RoleSet
add_if true more s = union_of s more
add_if false more s = s

-- the set with a role's own set where the test holds, and as it is where it does not
unfoldable pub add_own : Bool → (ℕ → RoleSet) → ℕ → RoleSet → RoleSet
add_own true own role s = union_of s (own role)
add_own false own role s = s

-- The roles below a number that pass a test.
unfoldable pub roles_below : ℕ → (ℕ → Bool) → RoleSet
roles_below zero test = empty_set
roles_below (suc role) test = add_if (test role) (single_of role) (roles_below role test)

-- All roles of the sets that the members of a set have as their own, for members below a number.
unfoldable pub sets_below : ℕ → (ℕ → RoleSet) → RoleSet → RoleSet
sets_below zero own members = empty_set
sets_below (suc role) own members = add_own (has_role members role) own role (sets_below role own members)

-- All roles of the sets that the members of a set have as their own.
unfoldable pub sets_of : (ℕ → RoleSet) → RoleSet → RoleSet
sets_of own members = sets_below 128 own members

-- A role's own set, for roles below a number.
unfoldable pub own_below : ℕ → (ℕ → RoleSet) → ℕ → RoleSet
own_below bound own role = cond (ltb role bound) (own role) empty_set

-- The roles below a number that have a role in their own set.
unfoldable pub named_below : ℕ → (ℕ → RoleSet) → ℕ → RoleSet
named_below bound own role = roles_below bound (λ other. has_role (own other) role)

-- For each role its plus set, its minus set, the roles that have it in their plus set and those that have it in their minus set; and
-- the roles labelled H.
pub record Turned : Type 0 where
  pub plus : ℕ → RoleSet
  pub minus : ℕ → RoleSet
  pub needed : ℕ → RoleSet
  pub opposed : ℕ → RoleSet
  pub high : RoleSet

-- What a typing says of its first roles, of which there are at most 128.
unfoldable pub turned_of : Table → ℕ → Turned
turned_of t roles = record {
  plus = own_below (min roles 128) (meaning t).plus;
  minus = own_below (min roles 128) (meaning t).minus;
  needed = named_below (min roles 128) (meaning t).plus;
  opposed = named_below (min roles 128) (meaning t).minus;
  high = roles_below (min roles 128) (meaning t).label;
}
