-- Where spell writes a text, and what it reports where the file is missing.
use Rattle.std.specs.Prelude.{ℕ, Bool, true, false, cond, Option, Some, None, List, [], ◌∷◌, ◌++◌, ◌≡◌, refl, leb, length, Ok, Err}
use Rattle.std.proofs.Common.{leb-true}
use Rattle.text.specs.Forms.{bytes}
use Rattle.reading.specs.Policy.{Said, read_policy}
use Rattle.showing.specs.Fields.{fields_on}
use Rattle.drafting.specs.PolicyText.{policy_text}
use Rattle.summing.specs.Outcome.{leaves, writes}
use Rattle.scribing.specs.Spell.{SpellAnswer, spelled, unspelled, spell_written, spell_outcome}
use Rattle.wording.specs.declared.Mention.{Mention}
use Rattle.wording.specs.Mentions.{mention_field}
use Rattle.wording.specs.MentionLaws.{of_nothing}
use Rattle.reporting.specs.Report.{missing_line, in_words}
use Rattle.reporting.specs.ReportLaws.{Kind, left, made, kind_read}
use Rattle.noting.specs.Note.{spell_line, spell_report}

-- whether an answer is a success, and the length of the text that it tells
unfoldable pub is_spelled : SpellAnswer → Bool
is_spelled (Ok written) = true
is_spelled (Err refusal) = false

unfoldable pub spell_told : SpellAnswer → ℕ
spell_told (Ok written) = written
spell_told (Err refusal) = 0

written-kind : (room : ℕ) (text : List ℕ) → Kind is_spelled spell_told room (spell_written room text)
unfolding spell_written is_spelled spell_told
written-kind room text = go (leb (length text) room) refl
  where
    go : (fits : Bool) → leb (length text) room ≡ fits → Kind is_spelled spell_told room (cond fits (writes (spelled (length text)) text) (leaves (unspelled 20 0)))
    go true here = made (spelled (length text)) text refl refl (leb-true (length text) room here)
    go false here = left (unspelled 20 0) refl

pub spell_kind : (policy : List ℕ) (room : ℕ) → Kind is_spelled spell_told room (spell_outcome policy room)
unfolding spell_outcome is_spelled
spell_kind policy room = kind_read is_spelled spell_told room unspelled (read_policy policy) _ (λ k n. refl) (λ (s : Said). written-kind room (policy_text s))

module _ (policy : List ℕ) (room : ℕ) {missing : Option ℕ} where
  pub spell_missing : {which : ℕ} → missing ≡ Some which → spell_report missing policy room ≡ leaves (missing_line Mention.SumText which)
  unfolding spell_report
  spell_missing gone = rw gone

  pub spell_there : missing ≡ None → spell_report missing policy room ≡ in_words spell_line (spell_outcome policy room)
  unfolding spell_report
  spell_there there = rw there

-- no line of an answer speaks of a text: there is one alone
pub spelled_line : (written : ℕ) → fields_on (bytes "SPELLED") (written ∷ []) ++ mention_field Mention.SumText 0 ++ bytes "\n" ≡ spell_line (spelled written)
unfolding fields_on spell_line
spelled_line written = of_nothing (fields_on (bytes "SPELLED") (written ∷ [])) Mention.SumText

pub refused_line : (number line : ℕ) → fields_on (bytes "REFUSED") (number ∷ line ∷ []) ++ mention_field Mention.SumText 0 ++ bytes "\n" ≡ spell_line (unspelled number line)
unfolding fields_on spell_line
refused_line number line = of_nothing (fields_on (bytes "REFUSED") (number ∷ line ∷ [])) Mention.SumText
