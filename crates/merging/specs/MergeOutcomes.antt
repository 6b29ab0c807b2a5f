-- How the outcome of merge follows from what is read, compared, judged, counted and written.
use Rattle.std.specs.Prelude.{ℕ, ◌+◌, ◌<◌, ◌≤◌, true, false, List, Option, Some, None, ◌≡◌, length, Err}
use Rattle.std.proofs.Math.Bool.{and-false}
use Rattle.std.proofs.Math.Path.{sym, ap, subst⁻¹}
use Rattle.std.proofs.Common.{ap₂, ◌∙◌}
use borrow.Author.Tests.{le-leb, lt-leb}
use Rattle.model.specs.declared.Typing.{Typing as Table}
use Rattle.tables.specs.declared.Name.{Name}
use Rattle.lines.specs.declared.Counts.{Counts}
use Rattle.walking.specs.Texts.{read, refused}
use Rattle.reading.specs.Policy.{Said, counts_of, read_policy}
use Rattle.typings.specs.TypingText.{Typed, read_typing, table_of}
use Rattle.judging.specs.declared.Failure.{Failure}
use Rattle.judging.specs.Verdict.{accepted, typing_verdict, rules_verdict, pinned_names}
use Rattle.spelling.specs.TypingText.{typing_text}
use Rattle.summing.specs.Sums.{sum_of}
use Rattle.summing.specs.Outcome.{Outcome, leaves, when_read, fitting, Meets}
use Rattle.summing.specs.Meeting.{meets_as, when_read_lem, when_refused, met_named, none_written, all_written}
use Rattle.merging.specs.declared.MergeAnswer.{MergeAnswer}
use Rattle.merging.specs.Directory.{same_directory}
use Rattle.merging.specs.Merge.{merge_refused, when_same, when_accepted, counts_fit, merge_written, merge_counted, merge_judged, merge_outcome}

-- ---- the four texts

-- What is left once both policies and typing one are read: typing two, then the directories and the judgings.
unfoldable pub merge_typed : ℕ → Said → Table → Said → (typing₂ : List ℕ) → Outcome MergeAnswer
merge_typed room s t s' typing₂ =
    when_read (merge_refused 4) (read_typing s'.roles typing₂) (λ (u : Typed). when_same s s' (merge_judged room s t s' (table_of u)))

module _ (policy₁ typing₁ policy₂ typing₂ : List ℕ) (room : ℕ) where
  -- policy one is refused, or typing one, or policy two
  pub policy_one_refused : {k n : ℕ} → read_policy policy₁ ≡ refused k n → merge_outcome policy₁ typing₁ policy₂ typing₂ room ≡ leaves (merge_refused 1 k n)
  unfolding merge_outcome
  policy_one_refused one = when_refused _ _ one

  module _ {s : Said} (one : read_policy policy₁ ≡ read s) where
    pub typing_one_refused : {k n : ℕ} → read_typing s.roles typing₁ ≡ refused k n → merge_outcome policy₁ typing₁ policy₂ typing₂ room ≡ leaves (merge_refused 2 k n)
    unfolding merge_outcome
    typing_one_refused first = when_read_lem _ _ one ∙ when_refused _ _ first

    module _ {t : Typed} (first : read_typing s.roles typing₁ ≡ read t) where
      pub policy_two_refused : {k n : ℕ} → read_policy policy₂ ≡ refused k n → merge_outcome policy₁ typing₁ policy₂ typing₂ room ≡ leaves (merge_refused 3 k n)
      unfolding merge_outcome
      policy_two_refused two = when_read_lem _ _ one ∙ when_read_lem _ _ first ∙ when_refused _ _ two

      -- both policies and typing one are read
      pub policies_read : {s' : Said} → read_policy policy₂ ≡ read s' → {a : Said} → a ≡ s → {v : Table} → v ≡ table_of t → merge_outcome policy₁ typing₁ policy₂ typing₂ room ≡ merge_typed room a v s' typing₂
      unfolding merge_outcome merge_typed
      policies_read {s'} two a-is v-is = when_read_lem _ _ one ∙ when_read_lem _ _ first ∙ when_read_lem _ _ two ∙ sym (ap₂ (λ (a : Said) (v : Table). merge_typed room a v s' typing₂) a-is v-is)

module _ (s s' : Said) (t : Table) (typing₂ : List ℕ) (room : ℕ) where
  -- typing two is refused
  pub typing_two_refused : {k n : ℕ} → read_typing s'.roles typing₂ ≡ refused k n → merge_typed room s t s' typing₂ ≡ leaves (merge_refused 4 k n)
  unfolding merge_typed
  typing_two_refused second = when_refused _ _ second

  -- all four are read
  pub all_read : {u : Typed} → read_typing s'.roles typing₂ ≡ read u → {w : Table} → w ≡ table_of u → merge_typed room s t s' typing₂ ≡ when_same s s' (merge_judged room s t s' w)
  unfolding merge_typed
  all_read second w-is = when_read_lem _ _ second ∙ sym (ap (λ (w : Table). when_same s s' (merge_judged room s t s' w)) w-is)

-- ---- the directories and the four judgings

module _ (s s' : Said) (t u : Table) (room : ℕ) where
  -- 17
  pub directories_differ : same_directory s s' ≡ false → when_same s s' (merge_judged room s t s' u) ≡ leaves (merge_refused 0 17 0)
  unfolding when_same
  directories_differ differ = rw differ

  module _ (same : same_directory s s' ≡ true) where
    -- typing one fails on policy one, typing two on policy two, typing one on rules two, or typing two on rules one
    pub fails_one : {failure : Failure} → typing_verdict s t ≡ Err failure → when_same s s' (merge_judged room s t s' u) ≡ leaves (MergeAnswer.Unproved 1 failure)
    unfolding when_same merge_judged when_accepted
    fails_one one = rw (same, one)

    module _ (one : typing_verdict s t ≡ accepted) where
      pub fails_two : {failure : Failure} → typing_verdict s' u ≡ Err failure → when_same s s' (merge_judged room s t s' u) ≡ leaves (MergeAnswer.Unproved 2 failure)
      unfolding when_same merge_judged when_accepted
      fails_two two = rw (same, one, two)

      module _ (two : typing_verdict s' u ≡ accepted) where
        pub fails_three : {failure : Failure} → rules_verdict s' t ≡ Err failure → when_same s s' (merge_judged room s t s' u) ≡ leaves (MergeAnswer.Unproved 3 failure)
        unfolding when_same merge_judged when_accepted
        fails_three three = rw (same, one, two, three)

        module _ (three : rules_verdict s' t ≡ accepted) where
          pub fails_four : {failure : Failure} → rules_verdict s u ≡ Err failure → when_same s s' (merge_judged room s t s' u) ≡ leaves (MergeAnswer.Unproved 4 failure)
          unfolding when_same merge_judged when_accepted
          fails_four four = rw (same, one, two, three, four)

          -- none fails
          pub all_accepted : rules_verdict s u ≡ accepted → when_same s s' (merge_judged room s t s' u) ≡ merge_counted room s s' (sum_of t u)
          unfolding when_same merge_judged when_accepted
          all_accepted four = rw (same, one, two, three, four)

-- ---- the joint counts and the text of the sum

module _ (s s' : Said) {p q : Counts} (one : p ≡ counts_of s) (two : q ≡ counts_of s') (t : Table) (room : ℕ) where
  -- the joint counts are those of the texts
  assigns_are : length s.assigns + length s'.assigns ≡ p.assigns + q.assigns
  unfolding counts_of
  assigns_are = sym (ap₂ (λ (c d : Counts). c.assigns + d.assigns) one two)

  revokes_are : length s.revokes + length s'.revokes ≡ p.revokes + q.revokes
  unfolding counts_of
  revokes_are = sym (ap₂ (λ (c d : Counts). c.revokes + d.revokes) one two)

  goals_are : length s.goals + length s'.goals ≡ p.goals + q.goals
  unfolding counts_of
  goals_are = sym (ap₂ (λ (c d : Counts). c.goals + d.goals) one two)

  roles_are : p.roles ≡ length s.roles
  unfolding counts_of
  roles_are = ap (λ (c : Counts). c.roles) one

  -- 19: one of them is above its limit
  pub assigns_above : 256 < p.assigns + q.assigns → merge_counted room s s' t ≡ leaves (merge_refused 0 19 0)
  unfolding merge_counted counts_fit
  assigns_above above = rw (assigns_are, lt-leb (p.assigns + q.assigns) 256 above)

  pub revokes_above : 256 < p.revokes + q.revokes → merge_counted room s s' t ≡ leaves (merge_refused 0 19 0)
  unfolding merge_counted counts_fit
  revokes_above above = rw (revokes_are, lt-leb (p.revokes + q.revokes) 256 above, and-false)

  pub goals_above : 32 < p.goals + q.goals → merge_counted room s s' t ≡ leaves (merge_refused 0 19 0)
  unfolding merge_counted counts_fit
  goals_above above = rw (goals_are, lt-leb (p.goals + q.goals) 32 above, and-false)

  module _ (assigns : p.assigns + q.assigns ≤ 256) (revokes : p.revokes + q.revokes ≤ 256) (goals : p.goals + q.goals ≤ 32) where
    -- none of them is
    counts_fit_lem : merge_counted room s s' t ≡ merge_written room s s' t
    unfolding merge_counted counts_fit
    counts_fit_lem =
        rw (assigns_are, revokes_are, goals_are, le-leb (p.assigns + q.assigns) 256 assigns, le-leb (p.revokes + q.revokes) 256 revokes, le-leb (p.goals + q.goals) 32 goals)

    module _ {names : List Name} (named : names ≡ s.roles) {before after : List ℕ} {written : Option ℕ} (met : Meets (fitting room (typing_text names t)) before written after) where
      -- 18: the text does not fit
      pub merge_unwritten : written ≡ None → {answer : MergeAnswer} → answer ≡ merge_refused 0 18 0 → Meets (merge_counted room s s' t) before answer after
      unfolding merge_written
      merge_unwritten none is = meets_as counts_fit_lem (subst⁻¹ (λ (a : MergeAnswer). Meets (merge_written room s s' t) before a after) is (none_written room (typing_text s.roles t) _ _ (met_named named t room met) none))

      -- the text is written
      pub merge_written_lem : {number : ℕ} → written ≡ Some number → {pinned : ℕ} → pinned ≡ pinned_names t p.roles
          → Meets (merge_counted room s s' t) before
          (MergeAnswer.Merged p.roles (p.assigns + q.assigns) (p.revokes + q.revokes) (p.goals + q.goals) pinned number) after
      unfolding merge_written
      merge_written_lem some many =
          meets_as counts_fit_lem
          (all_written room (typing_text s.roles t) _ _ (met_named named t room met) some (λ long. rw (assigns_are, revokes_are, goals_are, ← roles_are, many, long)))
