-- Spell gives each answer, and leaves in the buffer what it leaves, exactly when its rule says so.
use Rattle.std.specs.Prelude.{ℕ, Bool, cond, List, ◌↔◌, ◌≡◌}
use Rattle.std.proofs.Math.Bool.{true, false}
use Rattle.std.proofs.Common.{true≢false, subst, ◌∙◌, leb-true, leb-false, le-leb}
use Rattle.std.proofs.Math.Path.{refl, sym, ap}
use Rattle.std.proofs.lemmas.Bool.{lt-leb}
use Rattle.std.proofs.Math.Dec.{leb}
use Rattle.std.proofs.Math.ListN.{length, take, drop}
use Rattle.walking.specs.Texts.{Reading, read, refused}
use Rattle.writing.specs.Written.{put}
use Rattle.writing.proofs.Buffers.{put-before, put-past}
use Rattle.reading.specs.Policy.{Said, read_policy}
use Rattle.drafting.specs.PolicyText.{policy_text}
use Rattle.measuring.specs.Lengths.{spelled_length}
use Rattle.summing.specs.Outcome.{Outcome, leaves, writes, answer_in, buffer_after, when_read}
use Rattle.summing.specs.Meeting.{when_read_lem}
use Rattle.scribing.specs.Spell.{SpellAnswer, spelled, unspelled, spell_written, spell_outcome}
use Rattle.scribing.specs.SpellRules.{Spells, not_read, long, fitting, SpellFilled}
use Rattle.scribing.specs.SpellOutcomes.{spell_refused}

module _ (policy : List ℕ) (room : ℕ) where
  -- ---- its outcome is one that the rules allow

  -- once the policy is read
  written_rule : {s : Said} → read_policy policy ≡ read s → Spells policy room (spell_written room (policy_text s))
  unfolding spell_written
  written_rule {s} is = go (leb (length (policy_text s)) room) refl
    where
      go : (b : Bool) → leb (length (policy_text s)) room ≡ b → Spells policy room (cond b (writes (spelled (length (policy_text s))) (policy_text s)) (leaves (unspelled 20 0)))
      go true fits = fitting is (leb-true (length (policy_text s)) room fits)
      go false short = long is (leb-false (length (policy_text s)) room short)

  rule : Spells policy room (spell_outcome policy room)
  unfolding spell_outcome when_read
  rule = go (read_policy policy) refl
    where
      go : (r : Reading Said) → read_policy policy ≡ r → Spells policy room (when_read unspelled r (λ (s : Said). spell_written room (policy_text s)))
      go (read s) is = written_rule is
      go (refused number line) is = not_read is

  -- ---- and the rules allow no other

  ruled : {outcome : Outcome SpellAnswer} → Spells policy room outcome → spell_outcome policy room ≡ outcome
  unfolding spell_outcome spell_written
  ruled (not_read is) = spell_refused policy room is
  ruled (long {s} is short) = when_read_lem _ _ is ∙ rw (lt-leb (length (policy_text s)) room short)
  ruled (fitting {s} is fits) = when_read_lem _ _ is ∙ rw (le-leb (length (policy_text s)) room fits)

  -- Spell gives each answer, and writes what it writes, exactly when its rule holds.
  pub spell_exact : (outcome : Outcome SpellAnswer) → spell_outcome policy room ≡ outcome ↔ Spells policy room outcome
  spell_exact outcome = (λ is. subst (Spells policy room) is rule, ruled)

  module _ (buffer : List ℕ) where
    -- Every answer but success leaves the buffer as it was.
    pub spelled_unchanged : {number line : ℕ} → answer_in (spell_outcome policy room) ≡ unspelled number line → buffer_after (spell_outcome policy room) buffer ≡ buffer
    unfolding answer_in buffer_after
    spelled_unchanged {number} {line} is = go rule is
      where
        go : {outcome : Outcome SpellAnswer} → Spells policy room outcome → answer_in outcome ≡ unspelled number line → buffer_after outcome buffer ≡ buffer
        go (not_read refusing) told = refl
        go (long reads short) told = refl
        go (fitting reads fits) told = absurd (true≢false (cc))

    -- Success puts the spelling into it, of the length that it answers.
    pub spelled_fills : {written : ℕ} → answer_in (spell_outcome policy room) ≡ spelled written → SpellFilled policy written buffer (buffer_after (spell_outcome policy room) buffer)
    unfolding answer_in buffer_after
    spelled_fills {written} is = go rule is
      where
        go : {outcome : Outcome SpellAnswer} → Spells policy room outcome → answer_in outcome ≡ spelled written → SpellFilled policy written buffer (buffer_after outcome buffer)
        go (not_read refusing) told = absurd (true≢false (cc))
        go (long reads short) told = absurd (true≢false (cc))
        go (fitting {s} reads fits) told =
            let so : length (policy_text s) ≡ written = one told in
            record {
              said = s;
              policy_read = reads;
              as_long = sym so ∙ spelled_length policy reads;
              begins = ap (λ (n : ℕ). take n (put (policy_text s) buffer)) (sym so) ∙ put-before (policy_text s) buffer;
              stays = ap (λ (n : ℕ). drop n (put (policy_text s) buffer)) (sym so) ∙ put-past (policy_text s) buffer ∙ ap (λ (n : ℕ). drop n buffer) so;
            }
          where
            one : {n m : ℕ} → spelled n ≡ spelled m → n ≡ m
            one e = cc
