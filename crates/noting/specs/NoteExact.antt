-- When spell is reported as a success, and when as a missing file. The words that a line begins with differ in their first letters: S
-- of SPELLED, R of REFUSED, N of NOFILE.
use Rattle.std.specs.Prelude.{ℕ, ◌≤◌, true, Option, Some, None, List, ◌↔◌, ◌≡◌, length, get_or, Ok, Err}
use Rattle.std.proofs.Common.{true≢false, length-append, arith}
use Rattle.std.proofs.lemmas.Bool.{false≢true}
use Rattle.std.proofs.Math.Path.{refl}
use Rattle.writing.specs.Spelling.{decimal_length}
use Rattle.showing.specs.Fields.{field}
use Rattle.summing.specs.Outcome.{Outcome, answer_in}
use Rattle.scribing.specs.Spell.{SpellAnswer, spell_outcome}
use Rattle.wording.specs.declared.Mention.{Mention}
use Rattle.reporting.specs.Report.{missing_line, in_words, is_written}
use Rattle.reporting.specs.ReportLaws.{Kind, left, made}
use Rattle.reporting.specs.ReportExact.{letter, Tells, works_so, fails_so, reported, nofile, missing_length, words_length}
use Rattle.noting.specs.Note.{spell_line, spell_report}
use Rattle.noting.specs.NoteKinds.{is_spelled, spell_told, spell_kind, spell_missing, spell_there}

spell_tells : {room : ℕ} {outcome : Outcome SpellAnswer} → Kind is_spelled spell_told room outcome → Tells 83 (is_written outcome) (letter (in_words spell_line outcome))
unfolding in_words answer_in spell_line is_spelled is_written
spell_tells (left (Ok written) failing) = absurd (true≢false failing)
spell_tells (left (Err refusal) failing) = fails_so (λ is. omega (arith, is)) (λ is. omega (arith, is))
spell_tells (made (Ok written) text succeeding long room) = works_so (λ is. omega (arith, is))
spell_tells (made (Err refusal) text succeeding long room) = absurd (false≢true succeeding)

module _ (missing : Option ℕ) (policy : List ℕ) (room : ℕ) where
  -- SPELLED exactly where the file is not missing and the spelling is written.
  pub spell_reported : get_or (answer_in (spell_report missing policy room)) 0 0 ≡ 83 ↔ (missing ≡ None) × (is_written (spell_outcome policy room) ≡ true)
  unfolding missing_line
  spell_reported = reported (λ (file : Option ℕ). spell_report file policy room) (missing_line Mention.SumText) (spell_tells (spell_kind policy room)) (λ is. omega (arith, is)) (λ which. refl) (spell_there policy room refl) (λ which. spell_missing policy room refl) missing

  -- NOFILE exactly where the file is missing.
  pub spell_nofile : get_or (answer_in (spell_report missing policy room)) 0 0 ≡ 78 ↔ (missing ≡ None → ⊥)
  unfolding missing_line
  spell_nofile = nofile (λ (file : Option ℕ). spell_report file policy room) (missing_line Mention.SumText) (spell_tells (spell_kind policy room)) (λ is. omega (arith, is)) (λ which. refl) (spell_there policy room refl) (λ which. spell_missing policy room refl) missing

spell_length : (answer : SpellAnswer) → length (spell_line answer) ≤ 192
unfolding spell_line field
spell_length (Ok written) = simp length-append (omega (arith, decimal_length written))
spell_length (Err refusal) = simp length-append (omega (arith, decimal_length refusal.number, decimal_length refusal.line))

-- Every line of `spell` fits into 192 bytes.
pub spell_longest : (missing : Option ℕ) (policy : List ℕ) (room : ℕ) → length (answer_in (spell_report missing policy room)) ≤ 192
unfolding spell_report answer_in
spell_longest None policy room = words_length spell_line spell_length (spell_outcome policy room)
spell_longest (Some which) policy room = missing_length Mention.SumText which
