-- A text is read as a policy exactly when it is that policy's spelling with has lines and names inside sets in some order; and one
-- policy has one spelling.
use Rattle.std.specs.Prelude.{ℕ, List, ◌↔◌, ◌≡◌}
use Rattle.std.proofs.Math.Path.{sym}
use Rattle.std.proofs.Common.{◌∙◌}
use Rattle.walking.specs.Texts.{read}
use Rattle.reading.specs.Policy.{Said, read_policy}
use Rattle.drafting.specs.PolicyText.{policy_text}
use Rattle.summing.specs.Meeting.{when_read_lem}
use Rattle.scribing.specs.Spell.{spell_outcome}
use Rattle.reviewing.specs.Back.{text_read_back}
use Rattle.reordering.specs.Alike.{TextAlike, Readable}
use Rattle.reordering.specs.Same.{reordered_same}
use Rattle.reordering.specs.Read.{read_alike, read_readable}

-- A policy that can be read is read from its own spelling.
readable_back : {s : Said} → Readable s → read_policy (policy_text s) ≡ read s
readable_back h = text_read_back h.sound (record { some = λ last. h.some_goal; each = h.no_empty_goal }) h.at_goals h.some_goal h.short

-- A text is read as a policy exactly when the policy can be read and the text is a reordering of its spelling.
pub reads_exactly : (text : List ℕ) (s : Said) → read_policy text ≡ read s ↔ Readable s × TextAlike text (policy_text s)
reads_exactly text s = (λ is. (read_readable text is, read_alike text is), λ so. reordered_same text (policy_text s) so.1 (readable_back so.0))

-- A policy that is read is read again from its spelling.
pub spelled_reads_back : (text : List ℕ) {s : Said} → read_policy text ≡ read s → read_policy (policy_text s) ≡ read s
spelled_reads_back text is = readable_back (read_readable text is)

module _ (room : ℕ) where
  -- Texts of one policy are spelt alike, to the byte,
  pub spelled_once : (one two : List ℕ) {s : Said} → read_policy one ≡ read s → read_policy two ≡ read s → spell_outcome one room ≡ spell_outcome two room
  unfolding spell_outcome
  spelled_once one two is same = when_read_lem _ _ is ∙ sym (when_read_lem _ _ same)

  -- so are texts that differ in the order of has lines and of names inside sets,
  pub reordered_once : (text other : List ℕ) {s : Said} → TextAlike text other → read_policy other ≡ read s → spell_outcome text room ≡ spell_outcome other room
  reordered_once text other alike is = spelled_once text other (reordered_same text other alike is) is

  -- and a spelling is spelt as itself.
  pub spelled_again : (text : List ℕ) {s : Said} → read_policy text ≡ read s → spell_outcome (policy_text s) room ≡ spell_outcome text room
  spelled_again text {s} is = spelled_once (policy_text s) text (spelled_reads_back text is) is
