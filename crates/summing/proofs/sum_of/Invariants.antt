-- `sum_of` goes through the roles; the invariant: each array is the sum below this role, and the first typing's from it on.
use Rattle.summing.specs.Summing.{Summed}
use Rattle.summing.proofs.sum_of.Given as goal

abbrev pub invariant-loop-role : goal.invariant-loop-role
invariant-loop-role l = Summed l.initial.s l.u l.s l.role
