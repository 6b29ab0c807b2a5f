-- Merge gives each answer exactly when its rule says so.
use Rattle.std.specs.Prelude.{ℕ, ◌+◌, true, false, cond, ◌&&◌, List, ◌↔◌, ◌⊎◌, ◌≡◌, refl, leb, length}
use Rattle.std.proofs.Math.Bool.{and-eq-true_iff}
use Rattle.std.proofs.Math.Logic.{inl, inr}
use Rattle.std.proofs.Math.Path.{ap}
use Rattle.std.proofs.Common.{◌∙◌, leb-true, le-leb}
use Rattle.model.specs.Meaning.{meaning}
use Rattle.walking.specs.Texts.{Reading, read, refused}
use Rattle.reading.specs.Policy.{Said, read_policy}
use Rattle.typings.specs.TypingText.{Typed, read_typing, table_of}
use Rattle.judging.specs.declared.Part.{Part}
use Rattle.summing.specs.Sums.{sum_of}
use Rattle.summing.specs.Outcome.{Outcome, leaves, answer_in, when_read}
use Rattle.merging.specs.declared.MergeAnswer.{MergeAnswer}
use Rattle.merging.specs.DirectoryLaws.{same_exact}
use Rattle.merging.specs.Directory.{SameDirectory}
use Rattle.merging.specs.Merge.{merge_unproved, merge_refused, when_same, counts_fit, merge_written, merge_judged, merge_outcome}
use Rattle.composing.specs.SumRules.{sum_text, TextFits}
use Rattle.composing.specs.MergeRules.{FirstUnproved, Passing, CountsFit, merged, is_merged, MergeTexts, merge_texts, Merges}
use Rattle.composing.specs.Outcomes.{when_read_lem, when_refused, decided, taken, left, fits_exact, rules_exact, when_success, when_other, Gives, answer_exact}
use Rattle.composing.specs.Crossed.{unproved_answer, passing_answer, judgings}

-- The test of the joint counts is exact.
counts_exact : (s s' : Said) → counts_fit s s' ≡ true ↔ CountsFit s s'
unfolding counts_fit
counts_exact s s' = (
  λ is.
      let two = (and-eq-true_iff (leb assigns 256 && leb revokes 256) (leb goals 32)).0 is in
      let one = (and-eq-true_iff (leb assigns 256) (leb revokes 256)).0 two.0 in
      record { assigns = leb-true assigns 256 one.0; revokes = leb-true revokes 256 one.1; goals = leb-true goals 32 two.1 },
  λ fit.
      (and-eq-true_iff (leb assigns 256 && leb revokes 256) (leb goals 32)).1
      ((and-eq-true_iff (leb assigns 256) (leb revokes 256)).1 (le-leb assigns 256 fit.assigns, le-leb revokes 256 fit.revokes), le-leb goals 32 fit.goals),
)
  where
    assigns : ℕ
    assigns = length s.assigns + length s'.assigns

    revokes : ℕ
    revokes = length s.revokes + length s'.revokes

    goals : ℕ
    goals = length s.goals + length s'.goals

module _ (policy₁ typing₁ policy₂ typing₂ : List ℕ) (room : ℕ) where
  -- ---- the outcome where some texts are read

  -- from typing two on, from policy two on, from typing one on
  abbrev from_typing_two : Said → Typed → Said → Outcome MergeAnswer
  from_typing_two s t s' = when_read (merge_refused 4) (read_typing s'.roles typing₂) (λ u. when_same s s' (merge_judged room s (table_of t) s' (table_of u)))

  abbrev from_policy_two : Said → Typed → Outcome MergeAnswer
  from_policy_two s t = when_read (merge_refused 3) (read_policy policy₂) (from_typing_two s t)

  abbrev from_typing_one : Said → Outcome MergeAnswer
  from_typing_one s = when_read (merge_refused 2) (read_typing s.roles typing₁) (from_policy_two s)

  -- policy one is read; typing one too; policy two too
  after_one : {s : Said} → read_policy policy₁ ≡ read s → merge_outcome policy₁ typing₁ policy₂ typing₂ room ≡ from_typing_one s
  unfolding merge_outcome
  after_one policy_one = when_read_lem (merge_refused 1) from_typing_one policy_one

  after_two : {s : Said} {t : Typed} → read_policy policy₁ ≡ read s → read_typing s.roles typing₁ ≡ read t → merge_outcome policy₁ typing₁ policy₂ typing₂ room ≡ from_policy_two s t
  after_two {s} policy_one typing_one = after_one policy_one ∙ when_read_lem (merge_refused 2) (from_policy_two s) typing_one

  after_three : {s s' : Said} {t : Typed} → read_policy policy₁ ≡ read s → read_typing s.roles typing₁ ≡ read t → read_policy policy₂ ≡ read s' → merge_outcome policy₁ typing₁ policy₂ typing₂ room ≡ from_typing_two s t s'
  after_three {s} {s'} {t} policy_one typing_one policy_two = after_two policy_one typing_one ∙ when_read_lem (merge_refused 3) (from_typing_two s t) policy_two

  module _ {Holds : Said → Typed → Said → Typed → Type 0} (texts : MergeTexts policy₁ typing₁ policy₂ typing₂ Holds) where
    -- all four, then one directory, then the four judgings
    after_four : merge_outcome policy₁ typing₁ policy₂ typing₂ room ≡ when_same texts.said₁ texts.said₂ (merge_judged room texts.said₁ (table_of texts.typed₁) texts.said₂ (table_of texts.typed₂))
    after_four = after_three texts.policy_one texts.typing_one texts.policy_two ∙ when_read_lem (merge_refused 4) _ texts.typing_two

    after_same : SameDirectory texts.said₁ texts.said₂ → merge_outcome policy₁ typing₁ policy₂ typing₂ room ≡ merge_judged room texts.said₁ (table_of texts.typed₁) texts.said₂ (table_of texts.typed₂)
    unfolding when_same
    after_same same = after_four ∙ taken (same_exact texts.said₁ texts.said₂) _ _ same

    -- all four pass, and the joint counts are within their limits
    after_judging : Passing texts.said₁ texts.typed₁ texts.said₂ texts.typed₂
        → merge_outcome policy₁ typing₁ policy₂ typing₂ room ≡ cond (counts_fit texts.said₁ texts.said₂) (merge_written room texts.said₁ texts.said₂ (sum_of (table_of texts.typed₁) (table_of texts.typed₂))) (leaves (merge_refused 0 19 0))
    after_judging pass =
        after_same pass.directory
        ∙ passing_answer policy₁ typing₁ policy₂ typing₂ texts.policy_one texts.typing_one texts.policy_two texts.typing_two pass.directory room pass

    after_counts : Passing texts.said₁ texts.typed₁ texts.said₂ texts.typed₂ → CountsFit texts.said₁ texts.said₂
        → merge_outcome policy₁ typing₁ policy₂ typing₂ room ≡ merge_written room texts.said₁ texts.said₂ (sum_of (table_of texts.typed₁) (table_of texts.typed₂))
    after_counts pass few = after_judging pass ∙ taken (counts_exact texts.said₁ texts.said₂) _ _ few

  -- the outcome of each rule
  ruled : {outcome : Outcome MergeAnswer} → Merges policy₁ typing₁ policy₂ typing₂ room outcome → merge_outcome policy₁ typing₁ policy₂ typing₂ room ≡ outcome
  unfolding merge_outcome when_same merge_written sum_text merged
  ruled (Merges.no_policy_one one) = when_refused (merge_refused 1) from_typing_one one
  ruled (Merges.no_typing_one {s = s} one two) = after_one one ∙ when_refused (merge_refused 2) (from_policy_two s) two
  ruled (Merges.no_policy_two {s = s} {t = t} one two three) = after_two one two ∙ when_refused (merge_refused 3) (from_typing_two s t) three
  ruled (Merges.no_typing_two one two three four) = after_three one two three ∙ when_refused (merge_refused 4) _ four
  ruled (Merges.differing texts) = after_four texts ∙ left (same_exact texts.said₁ texts.said₂) _ _ texts.holds
  ruled (Merges.unproved texts) =
      after_same texts texts.holds.0
      ∙ unproved_answer policy₁ typing₁ policy₂ typing₂ texts.policy_one texts.typing_one texts.policy_two texts.typing_two texts.holds.0 room texts.holds.1
  ruled (Merges.many texts) = after_judging texts texts.holds.0 ∙ left (counts_exact texts.said₁ texts.said₂) _ _ texts.holds.1
  ruled (Merges.long texts) = after_counts texts texts.holds.0 texts.holds.1 ∙ left (fits_exact room (sum_text texts.said₁ texts.typed₁ texts.typed₂)) _ _ texts.holds.2
  ruled (Merges.fitting texts) = after_counts texts texts.holds.0 texts.holds.1 ∙ taken (fits_exact room (sum_text texts.said₁ texts.typed₁ texts.typed₂)) _ _ texts.holds.2

  -- ---- some rule always says what the outcome is

  -- a rule that holds, and its outcome
  abbrev Ruled : Type 0
  Ruled = (outcome : Outcome MergeAnswer) × Merges policy₁ typing₁ policy₂ typing₂ room outcome

  module _ {s s' : Said} {t u : Typed} (one : read_policy policy₁ ≡ read s) (two : read_typing s.roles typing₁ ≡ read t) (three : read_policy policy₂ ≡ read s') (four : read_typing s'.roles typing₂ ≡ read u) where
    -- where all four are read: the length of the text, before it the counts, before them the judgings, before those the directory
    at_text : Passing s t s' u → CountsFit s s' → TextFits room (sum_text s t u) ⊎ (TextFits room (sum_text s t u) → ⊥) → Ruled
    at_text pass few (inl fit) = (merged s t s' u, Merges.fitting (merge_texts policy₁ typing₁ policy₂ typing₂ one two three four (pass, few, fit)))
    at_text pass few (inr over) = (leaves (merge_refused 0 18 0), Merges.long (merge_texts policy₁ typing₁ policy₂ typing₂ one two three four (pass, few, over)))

    at_counts : Passing s t s' u → CountsFit s s' ⊎ (CountsFit s s' → ⊥) → Ruled
    at_counts pass (inl few) = at_text pass few (decided (fits_exact room (sum_text s t u)))
    at_counts pass (inr over) = (leaves (merge_refused 0 19 0), Merges.many (merge_texts policy₁ typing₁ policy₂ typing₂ one two three four (pass, over)))

    at_judging : SameDirectory s s' → Passing s t s' u ⊎ ((which : ℕ) × (part : Part) × (number : ℕ) × FirstUnproved (meaning (table_of t)) (meaning (table_of u)) s s' which part number) → Ruled
    at_judging same (inl pass) = at_counts pass (decided (counts_exact s s'))
    at_judging same (inr (which, part, number, fail)) = (leaves (merge_unproved which part number), Merges.unproved (merge_texts policy₁ typing₁ policy₂ typing₂ one two three four (same, fail)))

    at_directory : SameDirectory s s' ⊎ (SameDirectory s s' → ⊥) → Ruled
    at_directory (inl same) = at_judging same (judgings policy₁ typing₁ policy₂ typing₂ one two three four same)
    at_directory (inr differ) = (leaves (merge_refused 0 17 0), Merges.differing (merge_texts policy₁ typing₁ policy₂ typing₂ one two three four differ))

  -- the texts in their order
  some_rule : Ruled
  some_rule = at_one (read_policy policy₁) refl
    where
      at_four : {s s' : Said} {t : Typed} → read_policy policy₁ ≡ read s → read_typing s.roles typing₁ ≡ read t → read_policy policy₂ ≡ read s' → (r : Reading Typed) → read_typing s'.roles typing₂ ≡ r → Ruled
      at_four {s} {s'} one two three (read u) four = at_directory one two three four (decided (same_exact s s'))
      at_four one two three (refused number line) four = (leaves (merge_refused 4 number line), Merges.no_typing_two one two three four)

      at_three : {s : Said} {t : Typed} → read_policy policy₁ ≡ read s → read_typing s.roles typing₁ ≡ read t → (r : Reading Said) → read_policy policy₂ ≡ r → Ruled
      at_three one two (read s') three = at_four one two three (read_typing s'.roles typing₂) refl
      at_three one two (refused number line) three = (leaves (merge_refused 3 number line), Merges.no_policy_two one two three)

      at_two : {s : Said} → read_policy policy₁ ≡ read s → (r : Reading Typed) → read_typing s.roles typing₁ ≡ r → Ruled
      at_two one (read t) two = at_three one two (read_policy policy₂) refl
      at_two one (refused number line) two = (leaves (merge_refused 2 number line), Merges.no_typing_one one two)

      at_one : (r : Reading Said) → read_policy policy₁ ≡ r → Ruled
      at_one (read s) one = at_two one (read_typing s.roles typing₁) refl
      at_one (refused number line) one = (leaves (merge_refused 1 number line), Merges.no_policy_one one)

  -- The answer of merge and what it writes are those of a rule, exactly.
  pub merge_exact : (outcome : Outcome MergeAnswer) → merge_outcome policy₁ typing₁ policy₂ typing₂ room ≡ outcome ↔ Merges policy₁ typing₁ policy₂ typing₂ room outcome
  merge_exact = rules_exact (merge_outcome policy₁ typing₁ policy₂ typing₂ room) (λ outcome. ruled) some_rule

  -- And so the answer alone.
  pub merge_answers : (answer : MergeAnswer) → answer_in (merge_outcome policy₁ typing₁ policy₂ typing₂ room) ≡ answer ↔ Gives (Merges policy₁ typing₁ policy₂ typing₂ room) answer
  merge_answers = answer_exact (merge_outcome policy₁ typing₁ policy₂ typing₂ room) merge_exact

  -- ---- success, or an answer that leaves the buffer

  -- all that success says of the texts, with an outcome
  abbrev Success : Outcome MergeAnswer → Type 0
  Success outcome = MergeTexts policy₁ typing₁ policy₂ typing₂ (λ s t s' u. Passing s t s' u × CountsFit s s' × TextFits room (sum_text s t u) × (outcome ≡ merged s t s' u))

  -- what each rule's answer is
  cases : {outcome : Outcome MergeAnswer} → Merges policy₁ typing₁ policy₂ typing₂ room outcome → Success outcome ⊎ ((is_merged (answer_in outcome) ≡ false) × (outcome ≡ leaves (answer_in outcome)))
  unfolding is_merged answer_in
  cases (Merges.no_policy_one one) = inr (refl, refl)
  cases (Merges.no_typing_one one two) = inr (refl, refl)
  cases (Merges.no_policy_two one two three) = inr (refl, refl)
  cases (Merges.no_typing_two one two three four) = inr (refl, refl)
  cases (Merges.differing texts) = inr (refl, refl)
  cases (Merges.unproved texts) = inr (refl, refl)
  cases (Merges.many texts) = inr (refl, refl)
  cases (Merges.long texts) = inr (refl, refl)
  cases (Merges.fitting texts) =
      inl (merge_texts policy₁ typing₁ policy₂ typing₂ texts.policy_one texts.typing_one texts.policy_two texts.typing_two (texts.holds.0, texts.holds.1, texts.holds.2, refl))

  -- Success: all is read, the four judgings pass, the counts and the text fit, and it is written.
  pub merge_success : is_merged (answer_in (merge_outcome policy₁ typing₁ policy₂ typing₂ room)) ≡ true
      → MergeTexts policy₁ typing₁ policy₂ typing₂ (λ s t s' u. Passing s t s' u × CountsFit s s' × TextFits room (sum_text s t u) × (merge_outcome policy₁ typing₁ policy₂ typing₂ room ≡ merged s t s' u))
  merge_success = when_success (merge_outcome policy₁ typing₁ policy₂ typing₂ room) is_merged (cases ((merge_exact (merge_outcome policy₁ typing₁ policy₂ typing₂ room)).0 refl))

  -- Any other answer writes nothing.
  pub merge_leaves : is_merged (answer_in (merge_outcome policy₁ typing₁ policy₂ typing₂ room)) ≡ false
      → merge_outcome policy₁ typing₁ policy₂ typing₂ room ≡ leaves (answer_in (merge_outcome policy₁ typing₁ policy₂ typing₂ room))
  unfolding is_merged answer_in merged
  merge_leaves =
      when_other (merge_outcome policy₁ typing₁ policy₂ typing₂ room) is_merged (cases ((merge_exact (merge_outcome policy₁ typing₁ policy₂ typing₂ room)).0 refl))
      (λ texts. ap (λ (o : Outcome MergeAnswer). is_merged (answer_in o)) texts.holds.3)
