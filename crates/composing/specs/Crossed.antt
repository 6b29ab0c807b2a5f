-- Two policies over one directory: the first of the four judgings that fails is the answer, or all four pass.
use Rattle.std.specs.Prelude.{ℕ, cond, List, ◌⊎◌, ◌≡◌}
use Rattle.std.proofs.Common.{inl, inr, sym, subst, ◌∙◌}
use Rattle.std.proofs.Math.Path.{subst⁻¹}
use Rattle.model.specs.Typing.{Accepted}
use Rattle.model.specs.Meaning.{meaning}
use Rattle.walking.specs.Texts.{read}
use Rattle.reading.specs.Policy.{Said, policy_of, read_policy}
use Rattle.typings.specs.TypingText.{Typed, read_typing, table_of}
use Rattle.judging.specs.declared.Part.{Part}
use Rattle.judging.specs.Verdict.{typing_verdict, rules_verdict}
use Rattle.summing.specs.Sums.{sum_of}
use Rattle.summing.specs.Outcome.{leaves}
use Rattle.merging.specs.Directory.{SameDirectory}
use Rattle.merging.specs.Merge.{merge_unproved, merge_refused, counts_fit, merge_written, merge_counted, merge_judged}
use Rattle.composing.specs.MergeRules.{FirstUnproved, Passing}
use Rattle.composing.specs.Judgings.{OnPolicy, FailsOnPolicy, OnRules, FailsOnRules, Judging, Failing, judged, passed, failed, on_own, on_other}

module _ (policy₁ typing₁ policy₂ typing₂ : List ℕ) {s s' : Said} {t u : Typed} (policy_one : read_policy policy₁ ≡ read s) (typing_one : read_typing s.roles typing₁ ≡ read t) (policy_two : read_policy policy₂ ≡ read s') (typing_two : read_typing s'.roles typing₂ ≡ read u) (same : SameDirectory s s') where
  -- ---- typing one on policy one, typing two on policy two, typing one on rules two, typing two on rules one

  one_on_one : Judging (typing_verdict s (table_of t)) (OnPolicy s (table_of t)) (FailsOnPolicy s (table_of t))
  one_on_one = on_own policy₁ typing₁ policy_one typing_one

  two_on_two : Judging (typing_verdict s' (table_of u)) (OnPolicy s' (table_of u)) (FailsOnPolicy s' (table_of u))
  two_on_two = on_own policy₂ typing₂ policy_two typing_two

  one_on_two : Judging (rules_verdict s' (table_of t)) (OnRules s' (table_of t)) (FailsOnRules s' (table_of t))
  one_on_two = on_other policy₁ typing₁ policy_one typing_one policy₂ policy_two same.roles

  two_on_one : Judging (rules_verdict s (table_of u)) (OnRules s (table_of u)) (FailsOnRules s (table_of u))
  two_on_one = on_other policy₂ typing₂ policy_two typing_two policy₁ policy_one (sym same.roles)

  -- ---- what they lead to

  -- The first judging that fails is the answer.
  pub unproved_answer : {which number : ℕ} {part : Part} (room : ℕ) → FirstUnproved (meaning (table_of t)) (meaning (table_of u)) s s' which part number
      → merge_judged room s (table_of t) s' (table_of u) ≡ leaves (merge_unproved which part number)
  unfolding merge_judged
  unproved_answer room (FirstUnproved.one_on_one fail) = failed one_on_one 1 _ fail
  unproved_answer room (FirstUnproved.two_on_two one fail) = passed one_on_one 1 _ one ∙ failed two_on_two 2 _ fail
  unproved_answer room (FirstUnproved.one_on_two one two fail) = passed one_on_one 1 _ one ∙ passed two_on_two 2 _ two ∙ failed one_on_two 3 _ fail
  unproved_answer room (FirstUnproved.two_on_one one two cross fail) = passed one_on_one 1 _ one ∙ passed two_on_two 2 _ two ∙ passed one_on_two 3 _ cross ∙ failed two_on_one 4 _ fail

  -- Where all four pass the merge goes on to the counts and the text.
  pub passing_answer : (room : ℕ) → Passing s t s' u → merge_judged room s (table_of t) s' (table_of u) ≡ cond (counts_fit s s') (merge_written room s s' (sum_of (table_of t) (table_of u))) (leaves (merge_refused 0 19 0))
  unfolding merge_judged merge_counted
  passing_answer room pass =
      let all = pass.compatible in
      passed one_on_one 1 _ all.one
      ∙ passed two_on_two 2 _ (subst (Accepted (meaning (table_of u)) (policy_of s')) same.holdings all.two)
      ∙ passed one_on_two 3 _ all.one_on_two ∙ passed two_on_one 4 _ all.two_on_one

  -- some judging fails first
  abbrev First : Type 0
  First = (which : ℕ) × (part : Part) × (number : ℕ) × FirstUnproved (meaning (table_of t)) (meaning (table_of u)) s s' which part number

  -- All four pass, or one fails first.
  pub judgings : Passing s t s' u ⊎ First
  judgings = at_one (judged one_on_one)
    where
      at_four : OnPolicy s (table_of t) → OnPolicy s' (table_of u) → OnRules s' (table_of t)
          → OnRules s (table_of u) ⊎ Failing (FailsOnRules s (table_of u)) → Passing s t s' u ⊎ First
      at_four one two cross (inl pass) = inl (record { directory = same; compatible = record { one = one; two = subst⁻¹ (Accepted (meaning (table_of u)) (policy_of s')) same.holdings two; one_on_two = cross; two_on_one = pass } })
      at_four one two cross (inr (part, number, fail)) = inr (4, part, number, FirstUnproved.two_on_one one two cross fail)

      at_three : OnPolicy s (table_of t) → OnPolicy s' (table_of u)
          → OnRules s' (table_of t) ⊎ Failing (FailsOnRules s' (table_of t)) → Passing s t s' u ⊎ First
      at_three one two (inl pass) = at_four one two pass (judged two_on_one)
      at_three one two (inr (part, number, fail)) = inr (3, part, number, FirstUnproved.one_on_two one two fail)

      at_two : OnPolicy s (table_of t) → OnPolicy s' (table_of u) ⊎ Failing (FailsOnPolicy s' (table_of u)) → Passing s t s' u ⊎ First
      at_two one (inl pass) = at_three one pass (judged one_on_two)
      at_two one (inr (part, number, fail)) = inr (2, part, number, FirstUnproved.two_on_two one fail)

      at_one : OnPolicy s (table_of t) ⊎ Failing (FailsOnPolicy s (table_of t)) → Passing s t s' u ⊎ First
      at_one (inl pass) = at_two pass (judged two_on_two)
      at_one (inr (part, number, fail)) = inr (1, part, number, FirstUnproved.one_on_one fail)
