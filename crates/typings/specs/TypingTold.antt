-- What reading a typing tells: what was read, laid out, or a refusal.
use Rattle.std.specs.Prelude.{ℕ, List, Ok, Err, ◌≡◌}
use Rattle.std.proofs.Math.Path.{refl, ap}
use Rattle.std.proofs.Common.{true≢false, ◌∙◌}
use Rattle.model.specs.declared.Typing.{Typing as Table}
use Rattle.tables.specs.declared.Name.{Name}
use Rattle.walking.specs.declared.Refusal.{Refusal}
use Rattle.walking.specs.Texts.{Reading, read, refused}
use Rattle.typings.specs.TypingText.{Typed, read_typing, table_of, answer_of, typing_read}

-- the text is read, and the typing has what it says
pub record TypingTold (names : List Name) (text : List ℕ) (typing : Table) : Type 0 where
  pub typed : Typed
  pub is : read_typing names text ≡ read typed
  pub laid : typing ≡ table_of typed

module _ (names : List Name) (text : List ℕ) where
  -- a typing: the text is read
  pub typing_told_lem : {typing : Table} → Ok typing ≡ typing_read names text → TypingTold names text typing
  unfolding typing_read answer_of
  typing_told_lem {typing} given = go (read_typing names text) refl given
    where
      go : (r : Reading Typed) → read_typing names text ≡ r → Ok typing ≡ answer_of r → TypingTold names text typing
      go (read t) is same = record { typed = t; is = is; laid = cc }
      go (refused k n) is same = absurd (true≢false (cc))

  -- a refusal, with its number and line
  pub typing_untold : {refusal : Refusal} → Err refusal ≡ typing_read names text → read_typing names text ≡ refused refusal.number refusal.line
  unfolding typing_read answer_of
  typing_untold {refusal} given = go (read_typing names text) refl given
    where
      go : (r : Reading Typed) → read_typing names text ≡ r → Err refusal ≡ answer_of r → read_typing names text ≡ refused refusal.number refusal.line
      go (read t) is same = absurd (true≢false (cc))
      go (refused k n) is same = let one : record { number = k; line = n } ≡ refusal = cc in is ∙ ap (λ (r : Refusal). refused r.number r.line) one
