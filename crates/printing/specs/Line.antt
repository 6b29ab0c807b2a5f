-- The line that `check` prints for an answer, its fields parted by tabs.
use Rattle.std.specs.Prelude.{ℕ, List, ◌++◌}
use Rattle.text.specs.Forms.{bytes}
use Rattle.judging.specs.declared.Part.{Part}
use Rattle.writing.specs.Written.{spelled, decimal}
use Rattle.showing.specs.Fields.{field}
use Rattle.answering.specs.declared.Answer.{Answer}
use Rattle.answering.specs.Answers.{answer_of}

unfoldable pub part_text : Part → List ℕ
part_text Part.Holdings = bytes "holdings"
part_text Part.Assign = bytes "assign"
part_text Part.Revoke = bytes "revoke"
part_text Part.Goal = bytes "goal"

-- The line of an answer, with its LF.
unfoldable pub line_of : Answer → List ℕ
line_of (Answer.Safe roles assigns revokes goals pinned) =
    bytes "SAFE" ++ field (decimal roles) ++ field (decimal assigns) ++ field (decimal revokes) ++ field (decimal goals) ++ field (decimal pinned) ++ bytes "\n"
line_of (Answer.Attacked steps user name goal) = bytes "ATTACKED" ++ field (decimal steps) ++ field (spelled name) ++ field (decimal goal) ++ bytes "\n"
line_of (Answer.Unproved part number) = bytes "UNPROVED" ++ field (part_text part) ++ field (decimal number) ++ bytes "\n"
line_of (Answer.Broken step) = bytes "BROKEN" ++ field (decimal step) ++ bytes "\n"
line_of (Answer.Short steps) = bytes "SHORT" ++ field (decimal steps) ++ bytes "\n"
line_of (Answer.Refused refusal) = bytes "REFUSED" ++ field (decimal refusal.number) ++ field (decimal refusal.line) ++ bytes "\n"

-- The line that `check` prints for two texts.
unfoldable pub check_line : (policy evidence : List ℕ) → List ℕ
check_line policy evidence = line_of (answer_of policy evidence)
