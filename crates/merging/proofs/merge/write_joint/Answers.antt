-- `write_joint` adds the counts, compares each sum with its limit, and writes the text where it fits.
use Rattle.std.proofs.Common.{sym, ap, ◌∙◌}
use Rattle.summing.specs.Outcome.{leaves}
use Rattle.summing.specs.Meeting.{meets_leaving}
use Rattle.merging.specs.MergeOutcomes.{assigns_above, revokes_above, goals_above, merge_unwritten, merge_written_lem}
use Rattle.merging.proofs.merge.write_joint.Goals as goal

pub returns-then-assigns-gt256 : goal.returns-then-assigns-gt256
returns-then-assigns-gt256 c = λ s s' one two named. meets_leaving (assigns_above s s' one two _ _ c.if-assigns-gt256.true ∙ ap leaves (sym c.of_none.ensures))

pub returns-then-revokes-gt256 : goal.returns-then-revokes-gt256
returns-then-revokes-gt256 c = λ s s' one two named. meets_leaving (revokes_above s s' one two _ _ c.if-revokes-gt256.true ∙ ap leaves (sym c.of_none-then-revokes-gt256.ensures))

pub returns-then-goals-gt32 : goal.returns-then-goals-gt32
returns-then-goals-gt32 c = λ s s' one two named. meets_leaving (goals_above s s' one two _ _ c.if-goals-gt32.true ∙ ap leaves (sym c.of_none-then-goals-gt32.ensures))

pub returns-in-None : goal.returns-in-None
returns-in-None c = λ s s' one two named. merge_unwritten s s' one two _ _ c.if-assigns-gt256.false c.if-revokes-gt256.false c.if-goals-gt32.false named c.write_fitting.ensures c.in-None.is c.of_none-in-None.ensures

pub returns-in-Some : goal.returns-in-Some
returns-in-Some c = λ s s' one two named. merge_written_lem s s' one two _ _ c.if-assigns-gt256.false c.if-revokes-gt256.false c.if-goals-gt32.false named c.write_fitting.ensures c.in-Some.is c.pinned.ensures
