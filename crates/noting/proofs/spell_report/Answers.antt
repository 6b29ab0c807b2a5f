-- `spell_report` shows the line of NOFILE where the file is missing, and else of the answer of `spell`.
use Rattle.std.proofs.Common.{refl, length}
use Rattle.showing.specs.Fields.{fields_on}
use Rattle.showing.specs.Showing.{shows_as}
use Rattle.reporting.specs.Report.{missing_line}
use Rattle.reporting.specs.ReportLaws.{reported_as, reported_left, report_no, report_yes}
use Rattle.reporting.specs.ReportKinds.{all_read}
use Rattle.noting.specs.Note.{spell_line}
use Rattle.noting.specs.NoteKinds.{is_spelled, spell_told, spell_kind, spell_missing, spell_there, spelled_line, refused_line}
use Rattle.noting.proofs.spell_report.Goals as goal

pub returns-in-Some : goal.returns-in-Some
unfolding fields_on missing_line
returns-in-Some c =
    let made = reported_as (spell_missing c.args.policy.now (length c.args.out.now) c.in-Some.is) (reported_left {out = c.args.out.now} c.show.ensures) in
    record { reports = made.0; prefix_len = made.1 }

pub returns-in-Ok : goal.returns-in-Ok
unfolding is_spelled spell_told
returns-in-Ok c =
    let kind = spell_kind c.args.policy.now (length c.args.out.now) in
    let there = spell_there c.args.policy.now (length c.args.out.now) (all_read c.in_default.not-Some) in
    let shows = shows_as c.args.line.now (spelled_line c.in-Ok.length) c.show-in-Ok.ensures in
    let made = reported_as there (report_yes is_spelled spell_told spell_line c.in-Ok.is kind c.spell.ensures refl shows) in
    record { reports = made.0; prefix_len = made.1 }

pub returns-in-Err : goal.returns-in-Err
unfolding is_spelled
returns-in-Err c =
    let kind = spell_kind c.args.policy.now (length c.args.out.now) in
    let there = spell_there c.args.policy.now (length c.args.out.now) (all_read c.in_default.not-Some) in
    let shows = shows_as c.args.line.now (refused_line c.in-Err.refusal.number c.in-Err.refusal.line) c.show-in-Err.ensures in
    let made = reported_as there (report_no is_spelled spell_told spell_line c.in-Err.is kind c.spell.ensures refl shows) in
    record { reports = made.0; prefix_len = made.1 }
