-- `merge_report` shows the line of NOFILE where a file is missing, and else of the answer of `merge`.
use Rattle.std.proofs.Common.{refl, length}
use Rattle.showing.specs.Fields.{fields_on}
use Rattle.showing.specs.Showing.{shows_as}
use Rattle.reporting.specs.Report.{merge_line, missing_line}
use Rattle.reporting.specs.ReportLaws.{reported_as, reported_left, report_no, report_yes}
use Rattle.reporting.specs.ReportKinds.{all_read, is_merged, merge_told, merge_kind, merge_missing, merge_there, merged_line}
use Rattle.reporting.proofs.merge_report.Goals as goal

pub returns-in-Some : goal.returns-in-Some
unfolding fields_on missing_line
returns-in-Some c =
    let made = reported_as (merge_missing c.args.policy_1.now c.args.typing_1.now c.args.policy_2.now c.args.typing_2.now (length c.args.out.now) c.in-Some.is) (reported_left {out = c.args.out.now} c.show.ensures) in
    record { reports = made.0; prefix_len = made.1 }

pub returns-in-Merged : goal.returns-in-Merged
unfolding is_merged merge_told
returns-in-Merged c =
    let kind = merge_kind c.args.policy_1.now c.args.typing_1.now c.args.policy_2.now c.args.typing_2.now (length c.args.out.now) in
    let there = merge_there c.args.policy_1.now c.args.typing_1.now c.args.policy_2.now c.args.typing_2.now (length c.args.out.now) (all_read c.in_default.not-Some) in
    let shows = shows_as c.args.line.now (merged_line c.in-Merged.roles c.in-Merged.assigns c.in-Merged.revokes c.in-Merged.goals c.in-Merged.pinned c.in-Merged.length) c.show-in-Merged.ensures in
    let made = reported_as there (report_yes is_merged merge_told merge_line c.in-Merged.is kind c.merge.ensures refl shows) in
    record { reports = made.0; prefix_len = made.1 }

pub returns-in-Unproved : goal.returns-in-Unproved
unfolding merge_line is_merged
returns-in-Unproved c =
    let kind = merge_kind c.args.policy_1.now c.args.typing_1.now c.args.policy_2.now c.args.typing_2.now (length c.args.out.now) in
    let there = merge_there c.args.policy_1.now c.args.typing_1.now c.args.policy_2.now c.args.typing_2.now (length c.args.out.now) (all_read c.in_default.not-Some) in
    let made = reported_as there (report_no is_merged merge_told merge_line c.in-Unproved.is kind c.merge.ensures refl c.show_unproved.ensures) in
    record { reports = made.0; prefix_len = made.1 }

pub returns-in-Refused : goal.returns-in-Refused
unfolding fields_on merge_line is_merged
returns-in-Refused c =
    let kind = merge_kind c.args.policy_1.now c.args.typing_1.now c.args.policy_2.now c.args.typing_2.now (length c.args.out.now) in
    let there = merge_there c.args.policy_1.now c.args.typing_1.now c.args.policy_2.now c.args.typing_2.now (length c.args.out.now) (all_read c.in_default.not-Some) in
    let made = reported_as there (report_no is_merged merge_told merge_line c.in-Refused.is kind c.merge.ensures refl c.show-in-Refused.ensures) in
    record { reports = made.0; prefix_len = made.1 }
