-- What every good line keeps holds of every text that is read.
use Rattle.std.specs.Prelude.{ℕ, suc, Bool, ◌≡◌, refl, ltb, length}
use Rattle.std.proofs.Math.Bool.{true, false, cond}
use Rattle.std.proofs.Common.{true≢false}
use mathlib.Core.List.{List, [], ◌∷◌}
use Rattle.std.proofs.Math.Path.{subst}
use Rattle.text.specs.Pieces.{split}
use Rattle.walking.specs.Texts.{Judged, goes, ends, bad, Reading, read, refused, closing, onward, read_lines, read_text}

module _ {S : Type 0} (judge : S → List ℕ → Judged S) (malformed : ℕ) (Good : S → Type 0) (keeps : (s t : S) (line : List ℕ) → judge s line ≡ goes t → Good s → Good t) where
  -- a refusal is no reading
  apart : {number line : ℕ} {t : S} → refused number line ≡ read t → ⊥
  apart e = true≢false (cc)

  read_one : {s t : S} → read s ≡ read t → s ≡ t
  read_one e = cc

  closing_keeps : (s t : S) (line : ℕ) (pieces : List (List ℕ)) → closing judge malformed s line pieces ≡ read t → Good s → Good t
  unfolding closing
  closing_keeps s t line ([] ∷ []) is good = subst Good (read_one is) good
  closing_keeps s t line [] is good = absurd (apart is)
  closing_keeps s t line ([] ∷ next ∷ more) is good = absurd (apart is)
  closing_keeps s t line ((byte ∷ rest) ∷ more) is good = absurd (apart is)

  onward_keeps : (judged : Judged S) (s t : S) (line : ℕ) (below : List (List ℕ)) (reading : S → Reading S) → onward judge malformed judged s line below reading ≡ read t
      → ((u : S) → judged ≡ goes u → Good u) → ((u : S) → reading u ≡ read t → Good u → Good t) → Good s → Good t
  unfolding onward
  onward_keeps (goes u) s t line below reading is next more good = more u is (next u refl)
  onward_keeps ends s t line below reading is next more good = closing_keeps s t (suc line) below is good
  onward_keeps (bad number) s t line below reading is next more good = absurd (apart is)

  pub lines_keep : (s t : S) (line : ℕ) (pieces : List (List ℕ)) → read_lines judge malformed s line pieces ≡ read t → Good s → Good t
  unfolding read_lines
  lines_keep s t line [] is good = absurd (apart is)
  lines_keep s t line (tail ∷ []) is good = absurd (apart is)
  lines_keep s t line (first ∷ next ∷ more) is good =
      onward_keeps (judge s first) s t line (next ∷ more) (λ u. read_lines judge malformed u (suc line) (next ∷ more)) is (λ u e. keeps s u first e good)
      (λ u e h. lines_keep u t (suc line) (next ∷ more) e h) good

  pub text_keeps : (long : ℕ) (start t : S) (text : List ℕ) → read_text judge malformed long start text ≡ read t → Good start → Good t
  unfolding read_text
  text_keeps long start t text is good = go (ltb 32768 (length text)) is
    where
      go : (b : Bool) → cond b (refused long 0) (read_lines judge malformed start 1 (split 10 text)) ≡ read t → Good t
      go true e = absurd (apart e)
      go false e = lines_keep start t 1 (split 10 text) e good
