-- What sum and merge answer, and what the lent buffer then holds: every answer but success leaves it as it was.
use Rattle.std.specs.Prelude.{ℕ, Bool, cond, ◌&&◌, List, Option, Some, None, ◌≡◌, leb, length}
use Rattle.walking.specs.Texts.{Reading, read, refused}
use Rattle.writing.specs.Written.{put}

-- An answer that writes nothing, or success with the text that it writes.
pub data Outcome (A : Type 0) : Type 0 where
  leaves : A → Outcome A
  writes : A → List ℕ → Outcome A

unfoldable pub answer_in : {A : Type 0} → Outcome A → A
answer_in (leaves answer) = answer
answer_in (writes answer text) = answer

-- The buffer afterwards: the text at its start, and past the text its bytes as they were.
unfoldable pub buffer_after : {A : Type 0} → Outcome A → List ℕ → List ℕ
buffer_after (leaves answer) buffer = buffer
buffer_after (writes answer text) buffer = put text buffer

-- What was read goes on; a refusal is the answer.
unfoldable pub when_read : {S A : Type 0} → (ℕ → ℕ → A) → Reading S → (S → Outcome A) → Outcome A
when_read refusal (read s) go = go s
when_read refusal (refused number line) go = leaves (refusal number line)

-- 18: a text that is longer than the lent buffer or than 32,768 bytes.
unfoldable pub fits : (room : ℕ) → List ℕ → Bool
fits room text = leb (length text) room && leb (length text) 32768

-- A text written where it fits, with its length as the answer; no length where it does not fit.
unfoldable pub fitting : (room : ℕ) → List ℕ → Outcome (Option ℕ)
fitting room text = cond (fits room text) (writes (Some (length text)) text) (leaves None)

-- An answer, and the buffer before and after it, are what the outcome says.
pub record Meets {A : Type 0} (outcome : Outcome A) (before : List ℕ) (answer : A) (after : List ℕ) : Type 0 where
  pub answered : answer ≡ answer_in outcome
  pub left : after ≡ buffer_after outcome before
