-- `check_line_in` makes no line in too few words, and shows that of the answer in any others.
use Rattle.std.proofs.Common.{sym, ap, ◌∙◌}
use Rattle.ledgers.specs.MemoryLaws.{memory_short, memory_enough, spared_all}
use Rattle.printing.specs.Line.{line_of, check_line}
use Rattle.showing.specs.Showing.{shows_as}
use Rattle.printing.proofs.check_line_in.Goals as goal

pub returns-then-memory-lt-WORDS : goal.returns-then-memory-lt-WORDS
returns-then-memory-lt-WORDS c = record { value = sym (memory_short _ _ _ _ c.if-memory-lt-WORDS.true); out_after = sym (memory_short _ _ _ _ c.if-memory-lt-WORDS.true); spared = spared_all }

pub returns : goal.returns
unfolding check_line
returns c = let shown = shows_as c.args.out.now (ap line_of (c.check_in.ensures.value ∙ memory_enough _ _ _ _ c.if-memory-lt-WORDS.false)) c.show_answer.ensures in
    record { value = shown.0 ∙ sym (memory_enough _ _ _ _ c.if-memory-lt-WORDS.false); out_after = shown.1.0 ∙ sym (memory_enough _ _ _ _ c.if-memory-lt-WORDS.false); spared = c.check_in.ensures.spared }
