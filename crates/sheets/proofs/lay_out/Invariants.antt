-- `lay_out` goes through the roles below the limit; the invariant: the sheet and the roles labelled H are what the typing says of the roles passed.
use Rattle.sheets.specs.Laying.{LaidBelow}
use Rattle.sheets.proofs.lay_out.Given as goal

abbrev pub invariant-loop-role : goal.invariant-loop-role
invariant-loop-role l = LaidBelow l.t l.role l.sheet l.high
