-- `single` shifts a one to the role's place in its word, where it stays below 2 ^ 64.
use Rattle.std.proofs.Common.{ℕ, ◌-◌, ◌*◌, ◌%◌, ◌^◌, ◌<◌, lt-ltb, le-ltb, ◌≡◌, ◌∙◌, one-mul, mod-eq_of_lt, arith}
use Rattle.std.proofs.Math.Pow.{pow-lt}
use Rattle.roles.specs.Sets.{single_of}
use Rattle.roles.proofs.RoleSet.single.Goals as goal

-- a one shifted by less than the width
shifted : (k : ℕ) → k < 64 → 1 * 2 ^ k % 2 ^ 64 ≡ 2 ^ k
shifted k below = mod-eq_of_lt (rw one-mul (pow-lt below)) ∙ one-mul (2 ^ k)

pub returns-then-role-lt64 : goal.returns-then-role-lt64
unfolding single_of
returns-then-role-lt64 c = rw (lt-ltb _ _ c.if-role-lt64.true, shifted _ c.if-role-lt64.true)

pub returns-then-role-lt128 : goal.returns-then-role-lt128
unfolding single_of
returns-then-role-lt128 c = let fits : c.args.role - 64 < 64 = omega (arith, c.if-role-lt128.true) in
    rw (le-ltb _ _ c.if-role-lt64.false, lt-ltb _ _ c.if-role-lt128.true, shifted _ fits)

pub returns : goal.returns
unfolding single_of
returns c = rw (le-ltb _ _ c.if-role-lt64.false, le-ltb _ _ c.if-role-lt128.false) c.empty.ensures
