-- When spell gives each answer, in the order of the request: the policy is read, then 20.
use Rattle.std.specs.Prelude.{ℕ, ◌≤◌, ◌<◌, List, ◌≡◌, length, take, drop}
use Rattle.walking.specs.Texts.{read, refused}
use Rattle.reading.specs.Policy.{Said, read_policy}
use Rattle.drafting.specs.PolicyText.{policy_text}
use Rattle.summing.specs.Outcome.{Outcome, leaves, writes}
use Rattle.scribing.specs.Spell.{SpellAnswer, spelled, unspelled}

-- A refusal of reading; 20 where the text is longer than the lent buffer; else the length, and the text is written.
pub data Spells (policy : List ℕ) (room : ℕ) : Outcome SpellAnswer → Type 0 where
  not_read : {number line : ℕ} → read_policy policy ≡ refused number line → Spells policy room (leaves (unspelled number line))
  long : {s : Said} → read_policy policy ≡ read s → room < length (policy_text s) → Spells policy room (leaves (unspelled 20 0))
  fitting : {s : Said} → read_policy policy ≡ read s → length (policy_text s) ≤ room → Spells policy room (writes (spelled (length (policy_text s))) (policy_text s))

-- A policy's spelling stands at the start of a buffer, of the length that is answered, which is that of the text read; past it the
-- bytes are as they were.
pub record SpellFilled (policy : List ℕ) (written : ℕ) (buffer after : List ℕ) : Type 0 where
  pub said : Said
  pub policy_read : read_policy policy ≡ read said
  pub as_long : written ≡ length policy
  pub begins : take written after ≡ policy_text said
  pub stays : drop written after ≡ drop written buffer
