-- How a function meets an outcome: by leaving the buffer, or by a text that is written where it fits.
use Rattle.std.specs.Prelude.{ℕ, ◌<◌, ◌≤◌, Bool, cond, List, Option, Some, None, ◌≡◌, refl, length}
use Rattle.std.proofs.Math.Bool.{true, false, true≢false, and-false}
use Rattle.std.proofs.Math.Path.{sym, ap, subst⁻¹}
use Rattle.std.proofs.Common.{subst, ◌∙◌, arith}
use borrow.Author.Tests.{le-leb, lt-leb}
use Rattle.model.specs.declared.Typing.{Typing as Table}
use Rattle.tables.specs.declared.Name.{Name}
use Rattle.walking.specs.Texts.{Reading, read, refused}
use Rattle.writing.specs.Written.{put}
use Rattle.spelling.specs.TypingText.{typing_text}
use Rattle.summing.specs.Outcome.{Outcome, leaves, writes, answer_in, buffer_after, when_read, fits, fitting, Meets}

module _ {A : Type 0} {before : List ℕ} {answer : A} where
  -- the same outcome told in another way
  pub meets_as : {outcome told : Outcome A} {after : List ℕ} → outcome ≡ told → Meets told before answer after → Meets outcome before answer after
  meets_as {after = after} same met = subst⁻¹ (λ (o : Outcome A). Meets o before answer after) same met

  -- an answer that writes nothing
  pub meets_leaving : {outcome : Outcome A} → outcome ≡ leaves answer → Meets outcome before answer before
  unfolding answer_in buffer_after
  meets_leaving is = record { answered = sym (ap answer_in is); left = sym (ap (λ (o : Outcome A). buffer_after o before) is) }

-- An outcome allows one answer and one buffer.
pub meets_once : {A : Type 0} {outcome : Outcome A} {before after after' : List ℕ} {answer answer' : A} → Meets outcome before answer after → Meets outcome before answer' after' → (answer ≡ answer') × (after ≡ after')
meets_once one two = (one.answered ∙ sym two.answered, one.left ∙ sym two.left)

-- ---- a text that is read, or refused

module _ {S A : Type 0} (refusal : ℕ → ℕ → A) (go : S → Outcome A) {r : Reading S} where
  -- what was read goes on
  pub when_read_lem : {s : S} → r ≡ read s → when_read refusal r go ≡ go s
  unfolding when_read
  when_read_lem is = ap (λ (x : Reading S). when_read refusal x go) is

  -- a refusal is the outcome
  pub when_refused : {number line : ℕ} → r ≡ refused number line → when_read refusal r go ≡ leaves (refusal number line)
  unfolding when_read
  when_refused is = ap (λ (x : Reading S). when_read refusal x go) is

-- ---- a text that fits, or does not

module _ (text before : List ℕ) where
  -- it is longer than the buffer
  pub fitting_room : length before < length text → Meets (fitting (length before) text) before None before
  unfolding fitting fits
  fitting_room long = meets_leaving (rw (lt-leb (length text) (length before) long))

  -- it is longer than 32,768 bytes
  pub fitting_most : 32768 < length text → Meets (fitting (length before) text) before None before
  unfolding fitting fits
  fitting_most long = meets_leaving (rw (lt-leb (length text) 32768 long, and-false))

  -- neither: it is written
  pub fitting_written : length text ≤ length before → length text ≤ 32768 → {number : ℕ} {after : List ℕ} → (number ≡ length text) × (after ≡ put text before) → Meets (fitting (length before) text) before (Some number) after
  unfolding fitting fits answer_in buffer_after
  fitting_written room most wrote =
      meets_as {told = writes (Some (length text)) text} (rw (le-leb (length text) (length before) room, le-leb (length text) 32768 most)) (record { answered = ap Some wrote.0; left = wrote.1 })

-- no text of a typing is empty
pub text_some : (names : List Name) (t : Table) → 0 < length (typing_text names t)
unfolding typing_text
text_some names t = omega arith

-- a text over equal names
pub met_named : {names names' : List Name} → names ≡ names' → (t : Table) (room : ℕ) {before after : List ℕ} {written : Option ℕ} → Meets (fitting room (typing_text names t)) before written after
    → Meets (fitting room (typing_text names' t)) before written after
met_named same t room {before} {after} {written} met = subst (λ (names : List Name). Meets (fitting room (typing_text names t)) before written after) same met

-- An answer by the length that is written.
module _ {A : Type 0} (room : ℕ) (text : List ℕ) {before after : List ℕ} {written : Option ℕ} (success refusal : A) (met : Meets (fitting room text) before written after) where
  -- nothing is written
  pub none_written : written ≡ None → Meets (cond (fits room text) (writes success text) (leaves refusal)) before refusal after
  unfolding fitting answer_in buffer_after
  none_written none = go (fits room text) met.answered met.left
    where
      go : (b : Bool) → written ≡ answer_in (cond b (writes (Some (length text)) text) (leaves None)) → after ≡ buffer_after (cond b (writes (Some (length text)) text) (leaves None)) before
          → Meets (cond b (writes success text) (leaves refusal)) before refusal after
      go true is after_is = absurd (true≢false (cc))
      go false is after_is = record { answered = refl; left = after_is }

  -- the text is written
  pub all_written : {number : ℕ} → written ≡ Some number → {answer : A} → (number ≡ length text → answer ≡ success) → Meets (cond (fits room text) (writes success text) (leaves refusal)) before answer after
  unfolding fitting answer_in buffer_after
  all_written {number} some {answer} is = go (fits room text) met.answered met.left
    where
      go : (b : Bool) → written ≡ answer_in (cond b (writes (Some (length text)) text) (leaves None)) → after ≡ buffer_after (cond b (writes (Some (length text)) text) (leaves None)) before
          → Meets (cond b (writes success text) (leaves refusal)) before answer after
      go true length_is after_is = record { answered = is (cc); left = after_is }
      go false length_is after_is = absurd (true≢false (cc))
