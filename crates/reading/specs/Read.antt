-- What reading a policy text into a ledger answers, and what the ledger then says.
use Rattle.std.specs.Prelude.{ℕ, List, Result, Ok, Err, ◌≡◌}
use Rattle.walking.specs.Texts.{Reading, read, refused}
use Rattle.walking.specs.declared.Refusal.{Refusal}
use Rattle.lines.specs.declared.Counts.{Counts}
use Rattle.reading.specs.Policy.{Said, counts_of, read_policy}
use Rattle.reading.specs.Ledger.{ledger_says}

-- The counts of the policy, or the refusal's number and line.
unfoldable pub answer_read : Reading Said → Result Counts Refusal
answer_read (read s) = Ok (counts_of s)
answer_read (refused number line) = Err (record { number = number; line = line })

-- A policy text is read into a ledger: its answer, and where it is read the ledger says what the text says.
pub record ReadInto (text : List ℕ) (answer : Result Counts Refusal) (words : List ℕ) : Type 0 where
  pub answers : answer ≡ answer_read (read_policy text)
  pub says : (s : Said) → read_policy text ≡ read s → ledger_says words (counts_of s) ≡ s
