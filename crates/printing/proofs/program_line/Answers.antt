-- `program_line` shows the line of NOFILE where a file can't be read, and else the line of the two texts.
use Rattle.showing.specs.Showing.{shows_as}
use Rattle.showing.specs.Fields.{field}
use Rattle.printing.specs.Program.{no_file}
use Rattle.printing.specs.ProgramExact.{no_policy, no_evidence, both_read}
use Rattle.std.proofs.Common.{sym}
use Rattle.printing.proofs.program_line.Goals as goal

pub returns-then-not-policy_read : goal.returns-then-not-policy_read
unfolding no_file field
returns-then-not-policy_read c = let is = (no_policy c.args.policy_read c.args.policy.now c.args.evidence_read c.args.evidence.now).1 c.if-not-policy_read.true in
    let shown = shows_as c.args.out.now (sym is) c.show_line.ensures in record { value = shown.0; out_after = shown.1.0; upper_bound = shown.1.1 }

pub returns-then-not-evidence_read : goal.returns-then-not-evidence_read
unfolding no_file field
returns-then-not-evidence_read c = let first = c.if-not-policy_read.false in
    let second = c.if-not-evidence_read.true in
    let is = (no_evidence c.args.policy_read c.args.policy.now c.args.evidence_read c.args.evidence.now).1 (first, second) in
    let shown = shows_as c.args.out.now (sym is) c.show_line-then-not-evidence_read.ensures in record { value = shown.0; out_after = shown.1.0; upper_bound = shown.1.1 }

pub returns : goal.returns
returns c = let first = c.if-not-policy_read.false in
    let second = c.if-not-evidence_read.false in
    let is = both_read c.args.policy_read c.args.policy.now c.args.evidence_read c.args.evidence.now first second in
    let shown = shows_as c.args.out.now (sym is) (c.check_line.ensures.value, (c.check_line.ensures.out_after, c.check_line.ensures.upper_bound)) in record { value = shown.0; out_after = shown.1.0; upper_bound = shown.1.1 }
