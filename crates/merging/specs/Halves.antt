-- Two ledgers in one memory: that of policy one begins it, and that of policy two follows.
use Rattle.std.specs.Prelude.{ℕ, ◌-◌, ◌≤◌, List, Result, ◌++◌, ◌≡◌, length, take, drop}
use Rattle.std.proofs.Common.{ap₂, ◌∙◌, length-drop, length-take-le, take_at, drop_at, arith}
use Rattle.std.proofs.Math.Path.{subst⁻¹}
use borrow.Rule.Slice.PartMut.{put_mid, take_put, same_len_mid}
use Rattle.ledgers.specs.Ledger.{ledger_words}
use Rattle.walking.specs.declared.Refusal.{Refusal}
use Rattle.lines.specs.declared.Counts.{Counts}
use Rattle.reading.specs.Read.{ReadInto}
use Rattle.merging.specs.Merge.{merge_words}

abbrev pub ledger_one : List ℕ → List ℕ
ledger_one memory = take ledger_words memory

abbrev pub ledger_two : List ℕ → List ℕ
ledger_two memory = take (length memory - ledger_words) (drop ledger_words memory)

-- The memory with other words in the place of one of them.
abbrev pub with_one : List ℕ → List ℕ → List ℕ
with_one memory words = words ++ drop ledger_words memory

abbrev pub with_two : List ℕ → List ℕ → List ℕ
with_two memory words = put_mid ledger_words (length memory - ledger_words) memory words

module _ (memory : List ℕ) (enough : merge_words ≤ length memory) where
  -- there is room for both
  pub one_room : length (ledger_one memory) ≡ ledger_words
  one_room = length-take-le ledger_words memory (omega arith)

  two_long : length (ledger_two memory) ≡ length memory - ledger_words
  two_long = length-take-le (length memory - ledger_words) (drop ledger_words memory) (omega (arith, length-drop ledger_words memory))

  pub two_room : ledger_words ≤ length (ledger_two memory)
  two_room = omega (arith, two_long)

  -- the first stays where the second is another
  pub one_kept : (words : List ℕ) → ledger_one (with_two memory words) ≡ ledger_one memory
  one_kept words = take_put ledger_words (length memory - ledger_words) memory words (omega arith)

  -- a policy that is read into the first, or into the second, stands there
  module _ {words text : List ℕ} {answer : Result Counts Refusal} (into : ReadInto text answer words) where
    pub read_one : length words ≡ length (ledger_one memory) → ReadInto text answer (ledger_one (with_one memory words))
    read_one long = subst⁻¹ (ReadInto text answer) (take_at words (drop ledger_words memory) ledger_words (long ∙ one_room)) into

    pub read_two : length words ≡ length (ledger_two memory) → ReadInto text answer (ledger_two (with_two memory words))
    read_two long =
        let rest = drop (length memory - ledger_words) (drop ledger_words memory) in
        subst⁻¹ (ReadInto text answer)
        (ap₂ (λ (n : ℕ) (l : List ℕ). take (n - ledger_words) l) (same_len_mid ledger_words (length memory - ledger_words) memory words long) (drop_at (ledger_one memory) (words ++ rest) ledger_words one_room)
        ∙ take_at words rest (length memory - ledger_words) (long ∙ two_long))
        into
