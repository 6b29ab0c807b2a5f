-- The spelling of a policy asked for alone: the policy is read, and its text is written.
use Rattle.std.specs.Prelude.{ℕ, cond, List, [], ◌∷◌, leb, length, Result, Ok, Err}
use Rattle.walking.specs.declared.Refusal.{Refusal}
use Rattle.reading.specs.Policy.{Said, read_policy}
use Rattle.drafting.specs.PolicyText.{policy_text}
use Rattle.summing.specs.Outcome.{Outcome, leaves, writes, when_read}

-- An answer: the length of the text, or the refusal.
abbrev pub SpellAnswer : Type 0
SpellAnswer = Result ℕ Refusal

abbrev pub spelled : (written : ℕ) → SpellAnswer
spelled written = Ok written

abbrev pub unspelled : (number line : ℕ) → SpellAnswer
unspelled number line = Err (record { number = number; line = line })

-- A text written into a buffer with so much room, or 20.
unfoldable pub spell_written : ℕ → List ℕ → Outcome SpellAnswer
spell_written room text = cond (leb (length text) room) (writes (spelled (length text)) text) (leaves (unspelled 20 0))

-- The refusals of reading, then 20.
unfoldable pub spell_outcome : (policy : List ℕ) → ℕ → Outcome SpellAnswer
spell_outcome policy room = when_read unspelled (read_policy policy) (λ (s : Said). spell_written room (policy_text s))

-- The number of an answer, and its values: the length, or the line.
abbrev pub number_of : SpellAnswer → ℕ
number_of (Ok written) = 0
number_of (Err refusal) = refusal.number

abbrev pub values_of : SpellAnswer → List ℕ
values_of (Ok written) = written ∷ []
values_of (Err refusal) = refusal.line ∷ []
