-- How the outcome of spell follows from what is read and written.
use Rattle.std.specs.Prelude.{ℕ, ◌≤◌, ◌<◌, List, ◌≡◌, length}
use Rattle.std.proofs.Common.{ap, ◌∙◌, le-leb, arith}
use Rattle.std.proofs.lemmas.Bool.{lt-leb}
use Rattle.walking.specs.Texts.{read, refused}
use Rattle.writing.specs.Written.{put}
use Rattle.reading.specs.Policy.{Said, read_policy}
use Rattle.drafting.specs.PolicyText.{policy_text}
use Rattle.measuring.specs.Lengths.{spelled_length}
use Rattle.summing.specs.Outcome.{leaves, writes, answer_in, buffer_after, Meets}
use Rattle.summing.specs.Meeting.{meets_as, when_read_lem, when_refused}
use Rattle.scribing.specs.Spell.{spelled, unspelled, spell_written, spell_outcome}

module _ (policy : List ℕ) (room : ℕ) where
  -- the policy is refused
  pub spell_refused : {k n : ℕ} → read_policy policy ≡ refused k n → spell_outcome policy room ≡ leaves (unspelled k n)
  unfolding spell_outcome
  spell_refused is = when_refused _ _ is

  module _ {s : Said} (is : read_policy policy ≡ read s) where
    -- it is read, and there is no room for as many bytes
    pub spell_long : room < length policy → spell_outcome policy room ≡ leaves (unspelled 20 0)
    unfolding spell_outcome spell_written
    spell_long long = when_read_lem _ _ is ∙ rw (lt-leb (length (policy_text s)) room (omega (arith, spelled_length policy is)))

    -- or there is
    pub spell_fits : length policy ≤ room → spell_outcome policy room ≡ writes (spelled (length (policy_text s))) (policy_text s)
    unfolding spell_outcome spell_written
    spell_fits fits = when_read_lem _ _ is ∙ rw (le-leb (length (policy_text s)) room (omega (arith, spelled_length policy is)))

-- its text, once it is written, is the outcome
pub spell_meets : (policy before : List ℕ) {s : Said} {written : ℕ} {after : List ℕ} → read_policy policy ≡ read s → length policy ≤ length before → (written ≡ length (policy_text s)) × (after ≡ put (policy_text s) before)
    → Meets (spell_outcome policy (length before)) before (spelled written) after
unfolding answer_in buffer_after
spell_meets policy before {s} is fits wrote = meets_as (spell_fits policy (length before) is fits) (record { answered = ap spelled wrote.0; left = wrote.1 })
