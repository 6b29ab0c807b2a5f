-- Sum gives each answer exactly when its rule says so.
use Rattle.std.specs.Prelude.{ℕ, true, false, List, ◌↔◌, ◌⊎◌, ◌≡◌, refl}
use Rattle.std.proofs.Math.Logic.{inl, inr}
use Rattle.std.proofs.Math.Path.{ap}
use Rattle.std.proofs.Common.{◌∙◌}
use Rattle.walking.specs.Texts.{Reading, read, refused}
use Rattle.reading.specs.Policy.{Said, read_policy}
use Rattle.typings.specs.TypingText.{Typed, read_typing, table_of}
use Rattle.summing.specs.Sums.{sum_of}
use Rattle.summing.specs.Outcome.{Outcome, leaves, answer_in, when_read}
use Rattle.summing.specs.Sum.{SumAnswer, sum_refused, sum_written, sum_outcome}
use Rattle.composing.specs.SumRules.{sum_text, TextFits, summed, is_summed, SumTexts, sum_texts, Sums}
use Rattle.composing.specs.Outcomes.{when_read_lem, when_refused, decided, taken, left, fits_exact, rules_exact, when_success, when_other, Gives, answer_exact}

module _ (policy first second : List ℕ) (room : ℕ) where
  -- ---- the outcome where some texts are read

  -- from the second typing on, and from the first on
  abbrev from_second : Said → Typed → Outcome SumAnswer
  from_second s t = when_read (sum_refused 3) (read_typing s.roles second) (λ u. sum_written room s.roles (sum_of (table_of t) (table_of u)))

  abbrev from_first : Said → Outcome SumAnswer
  from_first s = when_read (sum_refused 2) (read_typing s.roles first) (from_second s)

  -- the policy is read; the first typing too
  after_policy : {s : Said} → read_policy policy ≡ read s → sum_outcome policy first second room ≡ from_first s
  unfolding sum_outcome
  after_policy reads = when_read_lem (sum_refused 1) from_first reads

  after_first : {s : Said} {t : Typed} → read_policy policy ≡ read s → read_typing s.roles first ≡ read t → sum_outcome policy first second room ≡ from_second s t
  after_first {s} reads one = after_policy reads ∙ when_read_lem (sum_refused 2) (from_second s) one

  -- Where all are read, the sum is written or the answer is 18.
  pub after_second : {s : Said} {t u : Typed} → read_policy policy ≡ read s → read_typing s.roles first ≡ read t → read_typing s.roles second ≡ read u
      → sum_outcome policy first second room ≡ sum_written room s.roles (sum_of (table_of t) (table_of u))
  after_second reads one two = after_first reads one ∙ when_read_lem (sum_refused 3) _ two

  -- the outcome of each rule
  ruled : {outcome : Outcome SumAnswer} → Sums policy first second room outcome → sum_outcome policy first second room ≡ outcome
  unfolding sum_outcome sum_written sum_text summed
  ruled (Sums.no_policy reads) = when_refused (sum_refused 1) from_first reads
  ruled (Sums.no_first {s = s} reads one) = after_policy reads ∙ when_refused (sum_refused 2) (from_second s) one
  ruled (Sums.no_second reads one two) = after_first reads one ∙ when_refused (sum_refused 3) _ two
  ruled (Sums.long texts) = after_second texts.policy_read texts.first_read texts.second_read ∙ left (fits_exact room (sum_text texts.said texts.one texts.two)) _ _ texts.holds
  ruled (Sums.fitting texts) = after_second texts.policy_read texts.first_read texts.second_read ∙ taken (fits_exact room (sum_text texts.said texts.one texts.two)) _ _ texts.holds

  -- ---- some rule always says what the outcome is

  -- a rule that holds, and its outcome
  abbrev Ruled : Type 0
  Ruled = (outcome : Outcome SumAnswer) × Sums policy first second room outcome

  -- the texts in their order, then the length of the text
  some_rule : Ruled
  some_rule = at_policy (read_policy policy) refl
    where
      at_text : {s : Said} {t u : Typed} → read_policy policy ≡ read s → read_typing s.roles first ≡ read t → read_typing s.roles second ≡ read u → TextFits room (sum_text s t u) ⊎ (TextFits room (sum_text s t u) → ⊥) → Ruled
      at_text {s} {t} {u} reads one two (inl fit) = (summed s t u, Sums.fitting (sum_texts policy first second reads one two fit))
      at_text reads one two (inr long) = (leaves (sum_refused 0 18 0), Sums.long (sum_texts policy first second reads one two long))

      at_second : {s : Said} {t : Typed} → read_policy policy ≡ read s → read_typing s.roles first ≡ read t → (r : Reading Typed) → read_typing s.roles second ≡ r → Ruled
      at_second {s} {t} reads one (read u) two = at_text reads one two (decided (fits_exact room (sum_text s t u)))
      at_second reads one (refused number line) two = (leaves (sum_refused 3 number line), Sums.no_second reads one two)

      at_first : {s : Said} → read_policy policy ≡ read s → (r : Reading Typed) → read_typing s.roles first ≡ r → Ruled
      at_first {s} reads (read t) one = at_second reads one (read_typing s.roles second) refl
      at_first reads (refused number line) one = (leaves (sum_refused 2 number line), Sums.no_first reads one)

      at_policy : (r : Reading Said) → read_policy policy ≡ r → Ruled
      at_policy (read s) reads = at_first reads (read_typing s.roles first) refl
      at_policy (refused number line) reads = (leaves (sum_refused 1 number line), Sums.no_policy reads)

  -- The answer of sum and what it writes are those of a rule, exactly.
  pub sum_exact : (outcome : Outcome SumAnswer) → sum_outcome policy first second room ≡ outcome ↔ Sums policy first second room outcome
  sum_exact = rules_exact (sum_outcome policy first second room) (λ outcome. ruled) some_rule

  -- And so the answer alone.
  pub sum_answers : (answer : SumAnswer) → answer_in (sum_outcome policy first second room) ≡ answer ↔ Gives (Sums policy first second room) answer
  sum_answers = answer_exact (sum_outcome policy first second room) sum_exact

  -- ---- success, or an answer that leaves the buffer

  -- all that success says of the texts, with an outcome
  abbrev Success : Outcome SumAnswer → Type 0
  Success outcome = SumTexts policy first second (λ s t u. TextFits room (sum_text s t u) × (outcome ≡ summed s t u))

  -- what each rule's answer is
  cases : {outcome : Outcome SumAnswer} → Sums policy first second room outcome → Success outcome ⊎ ((is_summed (answer_in outcome) ≡ false) × (outcome ≡ leaves (answer_in outcome)))
  unfolding is_summed answer_in
  cases (Sums.no_policy reads) = inr (refl, refl)
  cases (Sums.no_first reads one) = inr (refl, refl)
  cases (Sums.no_second reads one two) = inr (refl, refl)
  cases (Sums.long texts) = inr (refl, refl)
  cases (Sums.fitting texts) = inl (sum_texts policy first second texts.policy_read texts.first_read texts.second_read (texts.holds, refl))

  -- Success: all is read, the text fits, and it is written.
  pub sum_success : is_summed (answer_in (sum_outcome policy first second room)) ≡ true → SumTexts policy first second (λ s t u. TextFits room (sum_text s t u) × (sum_outcome policy first second room ≡ summed s t u))
  sum_success = when_success (sum_outcome policy first second room) is_summed (cases ((sum_exact (sum_outcome policy first second room)).0 refl))

  -- Any other answer writes nothing.
  pub sum_leaves : is_summed (answer_in (sum_outcome policy first second room)) ≡ false → sum_outcome policy first second room ≡ leaves (answer_in (sum_outcome policy first second room))
  unfolding is_summed answer_in summed
  sum_leaves =
      when_other (sum_outcome policy first second room) is_summed (cases ((sum_exact (sum_outcome policy first second room)).0 refl))
      (λ texts. ap (λ (o : Outcome SumAnswer). is_summed (answer_in o)) texts.holds.1)
