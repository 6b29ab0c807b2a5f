-- The line that the program `check` prints for two files.
use Rattle.std.specs.Prelude.{ℕ, Bool, true, false, List, ◌++◌}
use Rattle.text.specs.Forms.{bytes}
use Rattle.showing.specs.Fields.{field}
use Rattle.printing.specs.Line.{check_line}

-- NOFILE, then which file can't be read.
unfoldable pub no_file : (name : List ℕ) → List ℕ
no_file name = bytes "NOFILE" ++ field name ++ bytes "\n"

-- Of each file whether it could be read, and its bytes: NOFILE where a file can't be read, policy first; else the line of the two texts.
unfoldable pub program_line : (policyRead : Bool) (policy : List ℕ) (evidenceRead : Bool) (evidence : List ℕ) → List ℕ
program_line false policy evidenceRead evidence = no_file (bytes "policy")
program_line true policy false evidence = no_file (bytes "evidence")
program_line true policy true evidence = check_line policy evidence
