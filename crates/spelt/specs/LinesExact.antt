-- A text is read exactly when it is lines, each led on from those above.
use Rattle.std.specs.Prelude.{ℕ, suc, ◌≤◌, Bool, true, not, ◌↔◌, ◌≡◌, refl, eqb, length}
use Rattle.std.proofs.Math.Bool.{◌&&◌, and-eq-true_iff}
use mathlib.Core.List.{List, [], ◌∷◌, ◌++◌}
use Rattle.std.proofs.Math.Path.{ap, ap₂}
use Rattle.std.proofs.Common.{subst, ◌∙◌, ne_eqb}
use Rattle.std.proofs.lemmas.Bool.{eqb-false, not-true}
use Rattle.text.specs.Forms.{every}
use Rattle.text.specs.Pieces.{split, parted}
use Rattle.walking.specs.Texts.{Judged, goes, ends, read, read_text}
use Rattle.walking.specs.Meaning.{Unbroken, Above, ReadAs}
use Rattle.walking.specs.MeaningLaws.{read_exact}
use Rattle.rereading.specs.Cuts.{free, cut_first, cut_last, free_join}
use Rattle.spelt.specs.Lines.{ended}

-- ---- fields

-- Fields that are parted are cut again, where the byte is in none of them.
pub parted-fields : (mark : ℕ) (field : List ℕ) (fields : List (List ℕ)) → every (free mark) (field ∷ fields) ≡ true → split mark (parted mark (field ∷ fields)) ≡ field ∷ fields
unfolding parted every
parted-fields mark field [] clear = cut_last mark field ((and-eq-true_iff (free mark field) true).0 clear).0
parted-fields mark field (more ∷ fields) clear =
    let parts = (and-eq-true_iff (free mark field) (every (free mark) (more ∷ fields))).0 clear in
    cut_first mark field (parted mark (more ∷ fields)) parts.0 ∙ ap (λ (l : List (List ℕ)). field ∷ l) (parted-fields mark more fields parts.1)

-- Another byte that is in none of them is not in the whole.
pub parted-free : (mark other : ℕ) → free other (mark ∷ []) ≡ true → (fields : List (List ℕ)) → every (free other) fields ≡ true → free other (parted mark fields) ≡ true
unfolding parted every free
parted-free mark other clear [] all = refl
parted-free mark other clear (field ∷ []) all = ((and-eq-true_iff (free other field) true).0 all).0
parted-free mark other clear (field ∷ more ∷ fields) all =
    let parts = (and-eq-true_iff (free other field) (every (free other) (more ∷ fields))).0 all in
    free_join other field (mark ∷ parted mark (more ∷ fields)) parts.0 (free_join other (mark ∷ []) (parted mark (more ∷ fields)) clear (parted-free mark other clear (more ∷ fields) parts.1))

-- ---- lines

-- bytes without LF, as a test and as a family
free_unbroken : (line : List ℕ) → free 10 line ≡ true → Unbroken line
unfolding free every
free_unbroken [] clear = Unbroken.none
free_unbroken (byte ∷ line) clear =
    let parts = (and-eq-true_iff (not (eqb byte 10)) (free 10 line)).0 clear in
    Unbroken.more (eqb-false byte 10 (not-true (eqb byte 10) parts.0)) (free_unbroken line parts.1)

unbroken_free : {line : List ℕ} → Unbroken line → free 10 line ≡ true
unfolding free every
unbroken_free Unbroken.none = refl
unbroken_free (Unbroken.more {byte} {rest} other u) = ap₂ (λ (a b : Bool). not a && b) (ne_eqb byte 10 other) (unbroken_free u)

module _ {S : Type 0} (judge : S → List ℕ → Judged S) where
  -- Lines that lead from what was read above them to what is read at the end: each adds to it, and the last is `end`.
  pub data Lead : S → List (List ℕ) → S → Type 0 where
    last : {s : S} {line : List ℕ} → judge s line ≡ ends → Lead s (line ∷ []) s
    onward : {s t u : S} {line : List ℕ} {lines : List (List ℕ)} → judge s line ≡ goes t → Lead t lines u → Lead s (line ∷ lines) u

  -- Bytes are such lines with their LFs, none of which has an LF within.
  pub record InLines (start : S) (text : List ℕ) (said : S) : Type 0 where
    pub lines : List (List ℕ)
    pub are : text ≡ ended lines
    pub clear : every (free 10) lines ≡ true
    pub lead : Lead start lines said

  -- A line stands first, and what is read after it leads on.
  pub record Opened (header : List ℕ) (next : S) (lines : List (List ℕ)) (said : S) : Type 0 where
    pub below : List (List ℕ)
    pub are : lines ≡ header ∷ below
    pub lead : Lead next below said

  -- So it is where only that line is good.
  pub lead_opened : {s t : S} {lines : List (List ℕ)} (header : List ℕ) (next : S) → ((line : List ℕ) → judge s line ≡ ends → ⊥) → ((line : List ℕ) (u : S) → judge s line ≡ goes u → (line ≡ header) × (u ≡ next)) → Lead s lines t
      → Opened header next lines t
  lead_opened header next going only (last {line = line} is) = absurd (going line is)
  lead_opened header next going only (onward {t = u} {u = t} {line = line} {lines = lines} good below) =
      let opens = only line u good in
      record { below = lines; are = ap (λ (l : List ℕ). l ∷ lines) opens.0; lead = subst (λ (v : S). Lead v lines t) opens.1 below }

module _ {S : Type 0} (judge : S → List ℕ → Judged S) (malformed long : ℕ) (start : S) (text : List ℕ) where
  -- the lines above a line lead to it
  above_lines : {number : ℕ} {s t : S} {left : List ℕ} → Above judge start text number s left → InLines judge s left t → InLines judge start text t
  unfolding ended every
  above_lines Above.first below = below
  above_lines (Above.next {line = line} above u good) below =
      above_lines above (record {
        lines = line ∷ below.lines;
        are = ap (λ (l : List ℕ). line ++ (10 ∷ l)) below.are;
        clear = ap₂ ◌&&◌ (unbroken_free u) below.clear;
        lead = onward good below.lead;
      })

  -- lines that lead on are read
  lead_read : length text ≤ 32768 → {number : ℕ} {s t : S} {lines : List (List ℕ)} → Above judge start text number s (ended lines) → every (free 10) lines ≡ true → Lead judge s lines t → ReadAs judge start text t
  unfolding ended every
  lead_read fits {number} above clear (last {s} {line} is) =
      let parts = (and-eq-true_iff (free 10 line) true).0 clear in
      record { number = number; line = line; last = record { fits = fits; above = above; unbroken = free_unbroken line parts.0 }; is_end = is }
  lead_read fits {number = number} above clear (onward {line = line} {lines = lines} good below) =
      let parts = (and-eq-true_iff (free 10 line) (every (free 10) lines)).0 clear in
      lead_read fits {number = suc number} (Above.next above (free_unbroken line parts.0) good) parts.1 below

  -- A text is read exactly when it is not too long and is lines that lead to what is read.
  pub lines_exact : (said : S) → read_text judge malformed long start text ≡ read said ↔ ((length text ≤ 32768) × InLines judge start text said)
  unfolding ended every
  lines_exact said =
      let exact = read_exact judge malformed long start text said in (
        λ is. (
          (exact.0 is).last.fits,
          above_lines (exact.0 is).last.above (record {
            lines = (exact.0 is).line ∷ [];
            are = refl;
            clear = ap₂ ◌&&◌ (unbroken_free (exact.0 is).last.unbroken) refl;
            lead = last (exact.0 is).is_end;
          }),
        ),
        λ whole. exact.1 (lead_read whole.0 (subst (Above judge start text 1 start) whole.1.are Above.first) whole.1.clear whole.1.lead),
      )
