-- `note` goes through the members from the lowest on; the invariant: those that are not left have the role in their sets.
use Rattle.sheets.specs.Noting.{Noted}
use Rattle.sheets.proofs.note.Given as goal

abbrev pub invariant-loop-other : goal.invariant-loop-other
invariant-loop-other l = Noted l.column l.role l.fn.members l.other-iterator.left l.initial.sheet l.sheet
