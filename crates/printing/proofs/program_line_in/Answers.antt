-- `program_line_in` makes no line in too few words; in any others it shows the line of the two texts, or that of NOFILE.
use Rattle.std.proofs.Math.Bool.{and-eq-true_iff}
use Rattle.std.proofs.Common.{sym, ◌∙◌}
use Rattle.ledgers.specs.MemoryLaws.{memory_short, memory_enough, spared_all}
use Rattle.printing.specs.ProgramExact.{both_read}
use Rattle.printing.proofs.program_line_in.Goals as goal

pub returns-then-memory-lt-WORDS : goal.returns-then-memory-lt-WORDS
returns-then-memory-lt-WORDS c = record { value = sym (memory_short _ _ _ _ c.if-memory-lt-WORDS.true); out_after = sym (memory_short _ _ _ _ c.if-memory-lt-WORDS.true); spared = spared_all }

pub returns-then-policy_read-evidence_read : goal.returns-then-policy_read-evidence_read
returns-then-policy_read-evidence_read c = let read = (and-eq-true_iff c.args.policy_read c.args.evidence_read).0 c.if-policy_read-evidence_read.true in
    rw (both_read c.args.policy_read c.args.policy.now c.args.evidence_read c.args.evidence.now read.0 read.1) c.check_line_in.ensures

pub returns : goal.returns
returns c = record { value = c.program_line.ensures.value ∙ sym (memory_enough _ _ _ _ c.if-memory-lt-WORDS.false); out_after = c.program_line.ensures.out_after ∙ sym (memory_enough _ _ _ _ c.if-memory-lt-WORDS.false); spared = spared_all }
