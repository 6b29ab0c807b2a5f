-- How the outcome of sum follows from what is read and written.
use Rattle.std.specs.Prelude.{ℕ, List, Option, Some, None, ◌≡◌, length}
use Rattle.std.proofs.Math.Path.{sym}
use Rattle.std.proofs.Common.{ap₂, ◌∙◌}
use Rattle.model.specs.declared.Typing.{Typing as Table}
use Rattle.tables.specs.declared.Name.{Name}
use Rattle.walking.specs.Texts.{read, refused}
use Rattle.reading.specs.Policy.{Said, read_policy}
use Rattle.typings.specs.TypingText.{Typed, read_typing, table_of}
use Rattle.judging.specs.Verdict.{pinned_names}
use Rattle.spelling.specs.TypingText.{typing_text}
use Rattle.summing.specs.Sums.{sum_of}
use Rattle.summing.specs.Outcome.{leaves, fitting, Meets}
use Rattle.summing.specs.Meeting.{when_read_lem, when_refused, none_written, all_written}
use Rattle.summing.specs.Sum.{sum_made, sum_refused, sum_written, sum_outcome}

-- ---- the texts

module _ (policy first second : List ℕ) (room : ℕ) where
  -- the policy is refused, or the first typing, or the second
  pub sum_policy_refused : {k n : ℕ} → read_policy policy ≡ refused k n → sum_outcome policy first second room ≡ leaves (sum_refused 1 k n)
  unfolding sum_outcome
  sum_policy_refused is = when_refused _ _ is

  module _ {s : Said} (is : read_policy policy ≡ read s) where
    pub sum_first_refused : {k n : ℕ} → read_typing s.roles first ≡ refused k n → sum_outcome policy first second room ≡ leaves (sum_refused 2 k n)
    unfolding sum_outcome
    sum_first_refused one = when_read_lem _ _ is ∙ when_refused _ _ one

    module _ {t : Typed} (one : read_typing s.roles first ≡ read t) where
      pub sum_second_refused : {k n : ℕ} → read_typing s.roles second ≡ refused k n → sum_outcome policy first second room ≡ leaves (sum_refused 3 k n)
      unfolding sum_outcome
      sum_second_refused two = when_read_lem _ _ is ∙ when_read_lem _ _ one ∙ when_refused _ _ two

      -- all three are read
      pub sum_read : {u : Typed} → read_typing s.roles second ≡ read u → {v : Table} → v ≡ sum_of (table_of t) (table_of u) → {names : List Name} → names ≡ s.roles
          → sum_outcome policy first second room ≡ sum_written room names v
      unfolding sum_outcome
      sum_read two summed named = when_read_lem _ _ is ∙ when_read_lem _ _ one ∙ when_read_lem _ _ two ∙ sym (ap₂ (sum_written room) named summed)

-- ---- the text of the sum

module _ (names : List Name) (t : Table) (room : ℕ) {before after : List ℕ} {written : Option ℕ} (met : Meets (fitting room (typing_text names t)) before written after) where
  -- it does not fit
  pub sum_unwritten : written ≡ None → Meets (sum_written room names t) before (sum_refused 0 18 0) after
  unfolding sum_written
  sum_unwritten none = none_written room (typing_text names t) _ _ met none

  -- it is written
  pub sum-written : {number : ℕ} → written ≡ Some number → {pinned : ℕ} → pinned ≡ pinned_names t (length names) → Meets (sum_written room names t) before (sum_made pinned number) after
  unfolding sum_written
  sum-written some many = all_written room (typing_text names t) _ _ met some (ap₂ sum_made many)
