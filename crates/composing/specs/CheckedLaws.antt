-- A merge that succeeds is what check says of the joint text.
use Rattle.std.specs.Prelude.{ℕ, ◌≡◌, take}
use mathlib.Core.List.{List}
use Rattle.std.proofs.Common.{sym, ◌∙◌}
use Rattle.std.proofs.Math.Path.{ap, subst⁻¹}
use Rattle.std.proofs.Math.ListN.{length, length-append}
use Rattle.model.specs.declared.Typing.{Typing as Table}
use Rattle.model.specs.Policy.{Policy, joint}
use Rattle.model.specs.Typing.{Accepted}
use Rattle.model.specs.Meaning.{meaning}
use Rattle.tables.specs.declared.Name.{Name}
use Rattle.walking.specs.Texts.{read}
use Rattle.reading.specs.Policy.{Said, policy_of, read_policy}
use Rattle.typings.specs.TypingText.{Typed, read_typing, table_of}
use Rattle.judging.specs.Verdict.{pinned_names}
use Rattle.rereading.specs.Fits.{fits_read}
use Rattle.summing.specs.Sums.{sum_of, sum_typed}
use Rattle.summing.specs.Outcome.{answer_in, buffer_after}
use Rattle.merging.specs.declared.MergeAnswer.{MergeAnswer}
use Rattle.merging.specs.Merge.{merge_outcome}
use Rattle.answering.specs.declared.Answer.{Answer}
use Rattle.answering.specs.Answers.{answer_of}
use Rattle.answering.specs.CheckRules.{Safe}
use Rattle.answering.proofs.AnswerExact.{safe_exact}
use Rattle.composing.specs.SumRules.{sum_text}
use Rattle.composing.specs.MergeRules.{is_merged, merged, MergeTexts}
use Rattle.composing.specs.RuleLaws.{merge_so}
use Rattle.composing.specs.MergeExact.{merge_success}
use Rattle.composing.specs.BufferLaws.{merge_filled}
use Rattle.composing.specs.Summed.{sum_laid}
use Rattle.composing.specs.Together.{two_fits, sum_accepted}
use Rattle.composing.specs.ReadBack.{text_back}
use Rattle.composing.specs.Checked.{Joint}

module _ {s s' both : Said} (t u : Typed) (together : Joint s s' both) where
  -- what is accepted for the joint policy is accepted for what the text says
  accepted_text : table_of (sum_typed t u) ≡ sum_of (table_of t) (table_of u) → Accepted (meaning (sum_of (table_of t) (table_of u))) (joint (policy_of s) (policy_of s')) s.holdings
      → Accepted (meaning (table_of (sum_typed t u))) (policy_of both) both.holdings
  unfolding policy_of joint
  accepted_text laid accepted =
      let rules : policy_of both ≡ joint (policy_of s) (policy_of s') = λ i. record { assigns = together.assigns i; revokes = together.revokes i; goals = together.goals i } in
      subst⁻¹ (λ (x : Table). Accepted (meaning x) (policy_of both) both.holdings) laid
      (subst⁻¹ (λ (P : Policy). Accepted (meaning (sum_of (table_of t) (table_of u))) P both.holdings) rules
      (subst⁻¹ (Accepted (meaning (sum_of (table_of t) (table_of u))) (joint (policy_of s) (policy_of s'))) together.holdings accepted))

  -- what check answers SAFE with is what merge answers
  same_counts : {roles assigns revokes goals pinned written : ℕ} → Accepted (meaning (table_of (sum_typed t u))) (policy_of both) both.holdings → table_of (sum_typed t u) ≡ sum_of (table_of t) (table_of u)
      → answer_in (merged s t s' u) ≡ MergeAnswer.Merged roles assigns revokes goals pinned written → Safe roles assigns revokes goals pinned both (sum_typed t u)
  unfolding answer_in merged
  same_counts {roles} {assigns} {revokes} {goals} {pinned} {written} accepted laid is =
      told is (ap length together.roles) (ap length together.assigns ∙ length-append s.assigns s'.assigns) (ap length together.revokes ∙ length-append s.revokes s'.revokes)
      (ap length together.goals ∙ length-append s.goals s'.goals) (λ i. pinned_names (laid i) (length (together.roles i)))
    where
      told : {r a v g p n : ℕ} → MergeAnswer.Merged r a v g p n ≡ MergeAnswer.Merged roles assigns revokes goals pinned written → length both.roles ≡ r → length both.assigns ≡ a → length both.revokes ≡ v → length both.goals ≡ g
          → pinned_names (table_of (sum_typed t u)) (length both.roles) ≡ p → Safe roles assigns revokes goals pinned both (sum_typed t u)
      told e in-roles in-assigns in-revokes in-goals in-pinned = record {
        accepted = accepted;
        roles_counted = cc;
        assigns_counted = cc;
        revokes_counted = cc;
        goals_counted = cc;
        pinned_counted = cc;
      }

module _ (policy₁ typing₁ policy₂ typing₂ : List ℕ) (room : ℕ) where
  -- Whatever text says both policies together, check answers SAFE to it and the text written, with the counts and pinned of merge.
  pub merge_checked : {roles assigns revokes goals pinned written : ℕ} → answer_in (merge_outcome policy₁ typing₁ policy₂ typing₂ room) ≡ MergeAnswer.Merged roles assigns revokes goals pinned written → (buffer : List ℕ)
      → MergeTexts policy₁ typing₁ policy₂ typing₂ (λ s t s' u. (text : List ℕ) (both : Said) → read_policy text ≡ read both → Joint s s' both
      → answer_of text (take written (buffer_after (merge_outcome policy₁ typing₁ policy₂ typing₂ room) buffer)) ≡ Answer.Safe roles assigns revokes goals pinned)
  unfolding is_merged sum_text
  merge_checked is buffer =
      merge_so policy₁ typing₁ policy₂ typing₂
      (λ s t s' u one two three four holds text both reads together.
      let Fits-one = fits_read s.roles typing₁ two in
      let fits-two = two_fits typing₂ four holds.0 in
      let laid = sum_laid Fits-one fits-two in
      ap (answer_of text) (merge_filled s t s' u buffer holds.3 is).start
      ∙ (safe_exact text (sum_text s t u) _ _ _ _ _).1 (record {
        said = both;
        typing = sum_typed t u;
        reads = reads;
        over = ap (λ (names : List Name). read_typing names (sum_text s t u)) together.roles ∙ text_back policy₁ one Fits-one fits-two holds.2;
        holds = same_counts t u together (accepted_text t u together laid (sum_accepted policy₁ typing₁ typing₂ one two four holds.0)) laid (sym (ap answer_in holds.3) ∙ is);
      }))
      (merge_success policy₁ typing₁ policy₂ typing₂ room (ap is_merged is))
