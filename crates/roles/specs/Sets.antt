-- A set of roles in two 64-bit words, and what each operation on it gives.
use Rattle.std.specs.Prelude.{ℕ, ◌+◌, ◌-◌, ◌/◌, ◌%◌, ◌^◌, Bool, false, cond, not, ◌&&◌, ltb, eqb, Option, Some, None}
use Rattle.std.specs.Int.Bits.{bit_and, bit_or, bit_xor}
use Rattle.std.specs.Int.Count.{ones, count_trailing_zeros}
use Rattle.roles.specs.declared.RoleSet.{RoleSet}

-- bit k of a word is set
unfoldable pub bit : ℕ → ℕ → Bool
bit word k = eqb (word / 2 ^ k % 2) 1

-- bit r of the low word is role r, bit r of the high word is role 64 + r, and there is no role above 127
unfoldable pub has_role : RoleSet → ℕ → Bool
has_role s role = cond (ltb role 64) (bit s.low role) (cond (ltb role 128) (bit s.high (role - 64)) false)

-- no role
unfoldable pub empty_set : RoleSet
empty_set = record { low = 0; high = 0 }

-- one role; a number above 127 is no role
unfoldable pub single_of : ℕ → RoleSet
single_of role =
    cond (ltb role 64) (record { low = 2 ^ role; high = 0 })
    (cond (ltb role 128) (record { low = 0; high = 2 ^ (role - 64) }) empty_set)

-- the roles of either
unfoldable pub union_of : RoleSet → RoleSet → RoleSet
union_of s t = record { low = bit_or s.low t.low; high = bit_or s.high t.high }

-- the roles of both
unfoldable pub meet_of : RoleSet → RoleSet → RoleSet
meet_of s t = record { low = bit_and s.low t.low; high = bit_and s.high t.high }

-- one role more
unfoldable pub with_of : RoleSet → ℕ → RoleSet
with_of s role = union_of s (single_of role)

-- the roles of the first that are not in the second, which lies within it
unfoldable pub less_of : RoleSet → RoleSet → RoleSet
less_of s t = record { low = bit_xor s.low t.low; high = bit_xor s.high t.high }

-- the roles of the first that are not in the second
unfoldable pub apart_of : RoleSet → RoleSet → RoleSet
apart_of s t = less_of s (meet_of s t)

-- one role less
unfoldable pub without_of : RoleSet → ℕ → RoleSet
unfolding apart_of
without_of s role = apart_of s (single_of role)

-- the two sets are the same
unfoldable pub same_set : RoleSet → RoleSet → Bool
same_set s t = eqb s.low t.low && eqb s.high t.high

-- the two sets have a role in common
unfoldable pub shares_role : RoleSet → RoleSet → Bool
shares_role s t = not (same_set (meet_of s t) empty_set)

-- the first has all roles of the second
unfoldable pub includes : RoleSet → RoleSet → Bool
includes s t = same_set (meet_of t s) t

-- how many roles
unfoldable pub size_of : RoleSet → ℕ
size_of s = ones s.low + ones s.high

-- the lowest role; 128 where there is none
unfoldable pub lowest_role : RoleSet → ℕ
lowest_role s =
    let low = count_trailing_zeros 64 s.low in
    cond (ltb low 64) low (64 + count_trailing_zeros 64 s.high)

-- the lowest role, where there is one
unfoldable pub lowest_of : RoleSet → Option ℕ
lowest_of s = cond (ltb (lowest_role s) 128) (Some (lowest_role s)) None
