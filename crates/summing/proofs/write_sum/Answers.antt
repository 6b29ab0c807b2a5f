-- `write_sum` answers by the length that is written, where the text fits.
use Rattle.std.proofs.Common.{sym, ap, ◌∙◌}
use Rattle.tables.specs.NameLaws.{rows_length}
use Rattle.judging.specs.Verdict.{pinned_names}
use Rattle.summing.specs.SumOutcomes.{sum_unwritten, sum-written}
use Rattle.summing.proofs.write_sum.Goals as goal

pub returns-in-None : goal.returns-in-None
returns-in-None c = sum_unwritten _ _ _ c.write_fitting.ensures c.in-None.is

pub returns-in-Some : goal.returns-in-Some
returns-in-Some c = sum-written _ _ _ c.write_fitting.ensures c.in-Some.is
    (c.pinned.ensures ∙ ap (pinned_names c.args.t) (sym (rows_length c.args.roles.count c.args.roles.words.now)))
