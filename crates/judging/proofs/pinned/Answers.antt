-- `pinned` goes through the roles below the limit; the invariant: the total is that of the roles passed.
use Rattle.std.proofs.Common.{ℕ, ◌+◌, min, ◌≡◌, refl, ap₂, add-one, zero-le, arith}
use Rattle.roles.specs.Sets.{empty_set, size_of}
use Rattle.model.specs.Typing.{Typing}
use Rattle.model.specs.Meaning.{meaning}
use Rattle.judging.specs.Verdict.{pinned_below, pinned_names}
use Rattle.judging.proofs.pinned.Goals as goal

-- one role more
one_more : (Γ : Typing) (role : ℕ) {total plus minus : ℕ} → total ≡ pinned_below role Γ → plus ≡ size_of (Γ.plus role) → minus ≡ size_of (Γ.minus role) → total + (plus + minus) ≡ pinned_below (role + 1) Γ
unfolding pinned_below
one_more Γ role so_far plus minus = rw (add-one role) (ap₂ ◌+◌ so_far (ap₂ ◌+◌ plus minus))

pub loop-role-init : goal.loop-role-init
unfolding pinned_below
loop-role-init c = (zero-le, refl)

pub loop-role-preserved : goal.loop-role-preserved
unfolding meaning empty_set
loop-role-preserved c = (omega arith, one_more (meaning c.args.t) c.loop-role.role c.loop-role.invariant.1 c.count.ensures c.count-in-loop-role.ensures)

pub returns : goal.returns
unfolding pinned_names
returns c = let last : min c.args.roles 128 ≡ c.loop-role.role = omega (arith, c.min-role-end.ensures) in
    rw last c.loop-role.invariant.1
