-- A typing is refused and read exactly so.
use Rattle.std.specs.Prelude.{ℕ, List, ◌↔◌, ◌≡◌, length}
use Rattle.std.proofs.Math.Bool.{Bool, true, false, cond}
use Rattle.std.proofs.Common.{true≢false, sym, ◌∙◌}
use Rattle.std.proofs.Math.Path.{refl}
use Rattle.tables.specs.declared.Name.{Name}
use Rattle.text.specs.Pieces.{split}
use Rattle.walking.specs.Texts.{goes, ends, bad, read, refused}
use Rattle.walking.specs.Turns.{in_turn}
use Rattle.walking.specs.TurnLaws.{turn_same}
use Rattle.walking.specs.MeaningLaws.{refusal_exact, read_exact}
use Rattle.walking.specs.Evidence.{tests, tests_within, EvidenceReadAs}
use Rattle.walking.specs.EvidenceLaws.{within_all, refusal_means, reading_means}
use Rattle.typings.specs.declared.TypingEntry.{TypingEntry}
use Rattle.typings.specs.TypingLines as typing
use Rattle.typings.specs.TypingText.{Typed, untyped, headed, rowed, read_typing}
use Rattle.typings.specs.TypingText as typings
use Rattle.typings.specs.TypingRefusals.{last_row, typing_formed, typing_named, typing_within, typing_last, TypingRefusal}

-- what the rows say with one line more
row_added : TypingEntry → Typed → Typed
row_added TypingEntry.Header s = headed s
row_added (TypingEntry.Row label plus minus) s = rowed s label plus minus
row_added TypingEntry.End s = s

-- the tests of a line in turn, with the numbers of evidence
answered_tested : (s : Typed) (formed known : Bool) (says : TypingEntry) → typings.answered s (typing.tested formed known says) ≡ in_turn bad (tests formed known) (typings.added s says)
unfolding typings.answered in_turn
answered_tested s true true says = refl
answered_tested s true false says = refl
answered_tested s false known says = refl

module _ (names : List Name) where
  typing_tells : (s : Typed) (line : List ℕ)
      → typings.judge_line names s line ≡ in_turn bad (tests_within (typing_formed names s line) (typing_named names s line) (typing_within names s line)) (cond (typing_last names s line) ends (goes (row_added (typing.entry names (typing.line_of (split 9 line))) s)))
  unfolding typings.judge_line typings.added typing.typing_line typing.judged last_row row_added typing.entry typing.well_formed
  typing_tells s line = answered_tested s _ _ _ ∙ turn_same bad _ _ _ (λ passed. says (typing.line_of (split 9 line)) passed.0) ∙ within_all bad _ _ _
    where
      says : (f : typing.Line) → typing.well_formed s.stage (length names) f ≡ true → typings.added s (typing.entry names f) ≡ cond (last_row f) ends (goes (row_added (typing.entry names f) s))
      says (typing.header edition) is = refl
      says (typing.row name label plus minus) is = refl
      says typing.end is = refl
      says typing.other is = absurd (true≢false (sym is))

  -- A typing is refused with a number at a line exactly when it has that refusal,
  pub typing_refusal_exact : (text : List ℕ) (k n : ℕ) → read_typing names text ≡ refused k n ↔ TypingRefusal names text k n
  unfolding read_typing
  typing_refusal_exact text k n =
      let exact = refusal_exact (typings.judge_line names) 15 14 untyped text k n in
      let means = refusal_means (typings.judge_line names) (typing_formed names) (typing_named names) (typing_within names) (typing_last names) untyped text _ typing_tells {k = k} {n = n} in
      (λ is. means.0 (exact.0 is), λ r. exact.1 (means.1 r))

  -- and read as it says exactly when it does.
  pub typing_read_exact : (text : List ℕ) (t : Typed) → read_typing names text ≡ read t ↔ EvidenceReadAs (typings.judge_line names) (typing_formed names) (typing_named names) (typing_within names) (typing_last names) untyped text t
  unfolding read_typing
  typing_read_exact text t =
      let exact = read_exact (typings.judge_line names) 15 14 untyped text t in
      let means = reading_means (typings.judge_line names) (typing_formed names) (typing_named names) (typing_within names) (typing_last names) untyped text _ typing_tells {said = t} in
      (λ is. means.0 (exact.0 is), λ r. exact.1 (means.1 r))
