-- A text is read and refused exactly as is meant.
use Rattle.std.specs.Prelude.{ℕ, suc, ◌≤◌, ◌<◌, ◌↔◌, ◌⊎◌, ◌≡◌}
use Rattle.std.proofs.Common.{true≢false, sym, ◌∙◌, ne_eqb}
use mathlib.Core.List.{List, [], ◌∷◌, ◌++◌}
use Rattle.std.proofs.Math.Logic.{inl, inr}
use Rattle.std.proofs.Math.Path.{refl, subst, subst⁻¹}
use Rattle.std.proofs.Math.ListN.{length}
use Rattle.std.proofs.Math.Decide.{dec_lt, ℕ_discrete}
use native.Mathlib.Omega.{arith}
use Rattle.text.specs.Pieces.{split, onto}
use Rattle.walking.specs.Texts.{Judged, goes, ends, bad, Reading, read, refused, read_lines, read_text, onward, closing}
use Rattle.walking.specs.TextLaws.{lines_end, lines_next, onward_goes, onward_bad, onward_ends, closing_none, closing_some, text_long, text_fits}
use Rattle.walking.specs.Meaning.{Above, LF, LineAt, ReadAs, Refusal, Unbroken, after_end, bad_line_lem, first, more, next, no_end, none, too_long}

-- ---- the pieces between LFs

-- bytes without LF are one piece
pub one_piece : {tail : List ℕ} → Unbroken tail → split LF tail ≡ tail ∷ []
unfolding split onto
one_piece none = refl
one_piece (more {byte} {rest} other u) = rw (ne_eqb byte LF other, one_piece u)

-- a line with its LF is the first piece
pub line_piece : {line : List ℕ} → Unbroken line → (rest : List ℕ) → split LF (line ++ (LF ∷ rest)) ≡ line ∷ split LF rest
unfolding split onto
line_piece none rest = refl
line_piece (more {byte} {rest = line} other u) rest = rw (ne_eqb byte LF other, line_piece u rest)

-- any bytes are lines with their LFs and a tail without
data Lines : List ℕ → Type 0 where
  tail : {bytes : List ℕ} → Unbroken bytes → Lines bytes
  line : {bytes rest : List ℕ} → Unbroken bytes → Lines rest → Lines (bytes ++ (LF ∷ rest))

in_lines : (bytes : List ℕ) → Lines bytes
in_lines [] = tail none
in_lines (byte ∷ rest) = go (ℕ_discrete byte LF) (in_lines rest)
  where
    go : {rest : List ℕ} → Dec (byte ≡ LF) → Lines rest → Lines (byte ∷ rest)
    go {rest} (yes is) lines = subst⁻¹ (λ (b : ℕ). Lines (b ∷ rest)) is (line none lines)
    go (no other) (tail u) = tail (more other u)
    go (no other) (line u lines) = line (more other u) lines

-- ---- what is read is meant, and what is meant is read

module _ {S : Type 0} (judge : S → List ℕ → Judged S) (malformed long : ℕ) (start : S) (text : List ℕ) where
  -- what an answer says of the text
  Means : Reading S → Type 0
  Means (read s) = ReadAs judge start text s
  Means (refused k n) = Refusal judge malformed long start text k n

  -- from a line on, all above it good
  means_left : {n : ℕ} {s : S} {left : List ℕ} → length text ≤ 32768 → Lines left → Above judge start text n s left → Means (read_lines judge malformed s n (split LF left))
  unfolding Means onward
  means_left {n = n} {s = s} fits (tail u) above = subst⁻¹ Means (lines_end judge malformed s n (one_piece u)) (no_end fits above u)
  means_left {n = n} {s = s} fits (line {bytes} {rest} u lines) above =
      subst⁻¹ Means (lines_next judge malformed s n rest (line_piece u rest)) (go (judge s bytes) refl (λ t good. means_left {n = suc n} {s = t} fits lines (next above u good)))
    where
      closed : (after : List ℕ) → Above judge start text n s (bytes ++ (LF ∷ after)) → judge s bytes ≡ ends → Means (closing judge malformed s (suc n) (split LF after))
      closed [] at is = subst⁻¹ Means (closing_none judge malformed s (suc n) [] refl) (record { number = n; line = bytes; last = record { fits = fits; above = at; unbroken = u }; is_end = is })
      closed (byte ∷ after) at is = subst⁻¹ Means (closing_some judge malformed s (suc n) (byte ∷ after) (omega arith)) (after_end (record { fits = fits; above = at; unbroken = u }) is)

      go : (j : Judged S) → judge s bytes ≡ j → ((t : S) → judge s bytes ≡ goes t → Means (read_lines judge malformed t (suc n) (split LF rest)))
          → Means (onward judge malformed j s n (split LF rest) (λ t. read_lines judge malformed t (suc n) (split LF rest)))
      go (goes t) is below = below t is
      go ends is below = closed rest above is
      go (bad k) is below = bad_line_lem (record { fits = fits; above = above; unbroken = u }) is

  means_text : Means (read_text judge malformed long start text)
  unfolding Means
  means_text = go (dec_lt 32768 (length text))
    where
      go : Dec (32768 < length text) → Means (read_text judge malformed long start text)
      go (yes above) = subst⁻¹ Means (text_long judge malformed long start text above) (too_long above)
      go (no fits) = let short : length text ≤ 32768 = omega arith in subst⁻¹ Means (text_fits judge malformed long start text short) (means_left short (in_lines text) first)

  -- the lines above a line read, the text gives what the lines from it on give
  above_read : {n : ℕ} {s : S} {left : List ℕ} → Above judge start text n s left → read_lines judge malformed start 1 (split LF text) ≡ read_lines judge malformed s n (split LF left)
  above_read first = refl
  above_read (next {n} {s} {t} {line} {rest} above u good) =
      above_read above ∙ lines_next judge malformed s n rest (line_piece u rest)
      ∙ onward_goes judge malformed s n (split LF rest) (λ t. read_lines judge malformed t (suc n) (split LF rest)) good

  line_read : {n : ℕ} {s : S} {line rest : List ℕ} → LineAt judge start text n s line rest
      → read_text judge malformed long start text ≡ onward judge malformed (judge s line) s n (split LF rest) (λ t. read_lines judge malformed t (suc n) (split LF rest))
  line_read {n} {s} {line} {rest} at =
      text_fits judge malformed long start text at.fits ∙ above_read at.above ∙ lines_next judge malformed s n rest (line_piece at.unbroken rest)

  refusal_read : {k n : ℕ} → Refusal judge malformed long start text k n → read_text judge malformed long start text ≡ refused k n
  refusal_read (too_long above) = text_long judge malformed long start text above
  refusal_read (bad_line_lem {k} {n} {s} {line} {rest} at is) =
      line_read at ∙ onward_bad judge malformed s n (split LF rest) (λ t. read_lines judge malformed t (suc n) (split LF rest)) is
  refusal_read (no_end {n} {s} fits above u) = text_fits judge malformed long start text fits ∙ above_read above ∙ lines_end judge malformed s n (one_piece u)
  refusal_read (after_end {n} {s} {line} {rest} {byte} at is) =
      line_read at ∙ onward_ends judge malformed s n (split LF (byte ∷ rest)) (λ t. read_lines judge malformed t (suc n) (split LF (byte ∷ rest))) is
      ∙ closing_some judge malformed s (suc n) (byte ∷ rest) (omega arith)

  -- A text is refused with a number at a line exactly when it has that refusal.
  pub refusal_exact : (k n : ℕ) → read_text judge malformed long start text ≡ refused k n ↔ Refusal judge malformed long start text k n
  unfolding Means
  refusal_exact k n = (λ is. subst Means is means_text, refusal_read)

  -- A text is read as it says exactly when it does.
  pub read_exact : (s : S) → read_text judge malformed long start text ≡ read s ↔ ReadAs judge start text s
  unfolding Means
  read_exact s = (λ is. subst Means is means_text, back)
    where
      back : ReadAs judge start text s → read_text judge malformed long start text ≡ read s
      back whole =
          let n = whole.number in
          line_read whole.last ∙ onward_ends judge malformed s n (split LF []) (λ t. read_lines judge malformed t (suc n) (split LF [])) whole.is_end
          ∙ closing_none judge malformed s (suc n) [] refl

  -- A text has at most one refusal.
  pub one_refusal : {k l n m : ℕ} → Refusal judge malformed long start text k n → Refusal judge malformed long start text l m → (k ≡ l) × (n ≡ m)
  one_refusal {k} {l} {n} {m} a b = let same : ◌≡◌ {A = Reading S} (refused k n) (refused l m) = sym (refusal_read a) ∙ refusal_read b in (cc, cc)

  -- It is read in at most one way.
  pub one_reading : {s t : S} → ReadAs judge start text s → ReadAs judge start text t → s ≡ t
  one_reading {s} {t} a b = let same : read s ≡ read t = sym ((read_exact s).1 a) ∙ (read_exact t).1 b in cc

  -- Every text is read or refused,
  pub read_or_refused : ((s : S) × ReadAs judge start text s) ⊎ ((k : ℕ) × (n : ℕ) × Refusal judge malformed long start text k n)
  unfolding Means
  read_or_refused = go (read_text judge malformed long start text) means_text
    where
      go : (r : Reading S) → Means r → ((s : S) × ReadAs judge start text s) ⊎ ((k : ℕ) × (n : ℕ) × Refusal judge malformed long start text k n)
      go (read s) is = inl (s, is)
      go (refused k n) is = inr (k, n, is)

  -- and never both.
  pub read_not_refused : {s : S} {k n : ℕ} → ReadAs judge start text s → Refusal judge malformed long start text k n → ⊥
  read_not_refused {s} {k} {n} a b = let same : read s ≡ refused k n = sym ((read_exact s).1 a) ∙ refusal_read b in true≢false (cc)
