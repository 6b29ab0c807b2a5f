-- `sum_report` shows the line of NOFILE where a file is missing, and else of the answer of `sum`.
use Rattle.std.proofs.Common.{refl, length}
use Rattle.showing.specs.Fields.{fields_on}
use Rattle.showing.specs.Showing.{shows_as}
use Rattle.reporting.specs.Report.{sum_line, missing_line}
use Rattle.reporting.specs.ReportLaws.{reported_as, reported_left, report_no, report_yes}
use Rattle.reporting.specs.ReportKinds.{all_read, is_summed, sum_told, sum-kind, sum_missing, sum_there, summed_line}
use Rattle.reporting.proofs.sum_report.Goals as goal

pub returns-in-Some : goal.returns-in-Some
unfolding fields_on missing_line
returns-in-Some c =
    let made = reported_as (sum_missing c.args.policy.now c.args.first.now c.args.second.now (length c.args.out.now) c.in-Some.is) (reported_left {out = c.args.out.now} c.show.ensures) in
    record { reports = made.0; prefix_len = made.1 }

pub returns-in-Ok : goal.returns-in-Ok
unfolding is_summed sum_told
returns-in-Ok c =
    let kind = sum-kind c.args.policy.now c.args.first.now c.args.second.now (length c.args.out.now) in
    let there = sum_there c.args.policy.now c.args.first.now c.args.second.now (length c.args.out.now) (all_read c.in_default.not-Some) in
    let shows = shows_as c.args.line.now (summed_line c.in-Ok.summed.pinned c.in-Ok.summed.length) c.show-in-Ok.ensures in
    let made = reported_as there (report_yes is_summed sum_told sum_line c.in-Ok.is kind c.sum.ensures refl shows) in
    record { reports = made.0; prefix_len = made.1 }

pub returns-in-Err : goal.returns-in-Err
unfolding fields_on sum_line is_summed
returns-in-Err c =
    let kind = sum-kind c.args.policy.now c.args.first.now c.args.second.now (length c.args.out.now) in
    let there = sum_there c.args.policy.now c.args.first.now c.args.second.now (length c.args.out.now) (all_read c.in_default.not-Some) in
    let made = reported_as there (report_no is_summed sum_told sum_line c.in-Err.is kind c.sum.ensures refl c.show-in-Err.ensures) in
    record { reports = made.0; prefix_len = made.1 }
