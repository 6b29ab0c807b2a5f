-- What the command `spell` makes: the text, and the line of the answer, its fields parted by tabs.
use Rattle.std.specs.Prelude.{ℕ, Option, Some, None, List, ◌++◌, Ok, Err}
use Rattle.text.specs.Forms.{bytes}
use Rattle.writing.specs.Written.{decimal}
use Rattle.showing.specs.Fields.{field}
use Rattle.summing.specs.Outcome.{Outcome, leaves}
use Rattle.scribing.specs.Spell.{SpellAnswer, spell_outcome}
use Rattle.wording.specs.declared.Mention.{Mention}
use Rattle.reporting.specs.Report.{missing_line, in_words}

-- The line of an answer, with its LF.
unfoldable pub spell_line : SpellAnswer → List ℕ
spell_line (Ok written) = bytes "SPELLED" ++ field (decimal written) ++ bytes "\n"
spell_line (Err refusal) = bytes "REFUSED" ++ field (decimal refusal.number) ++ field (decimal refusal.line) ++ bytes "\n"

-- NOFILE where the file is missing, which has the number 1, else the answer to the text and what it writes into a buffer with so much
-- room.
unfoldable pub spell_report : (missing : Option ℕ) (policy : List ℕ) → ℕ → Outcome (List ℕ)
spell_report None policy room = in_words spell_line (spell_outcome policy room)
spell_report (Some which) policy room = leaves (missing_line Mention.SumText which)
