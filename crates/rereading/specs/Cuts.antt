-- A text is cut at a mark into the pieces that were joined with it, where no piece has the mark.
use Rattle.std.specs.Prelude.{ℕ, Bool, true, false, not, ◌&&◌, List, [], ◌∷◌, ◌++◌, ◌≡◌, refl, eqb, leb, length}
use Rattle.std.proofs.Math.Bool.{and-eq-true_iff}
use Rattle.std.proofs.lemmas.Bool.{false≢true, not-true}
use Rattle.std.proofs.Common.{sym, ap, ap₂, ◌∙◌, eqb-true, eq-eqb}
use Rattle.text.specs.Forms.{every, name_byte, is_name}
use Rattle.text.specs.Pieces.{split, onto}

-- No byte is the mark.
unfoldable pub free : ℕ → List ℕ → Bool
free mark s = every (λ byte. not (eqb byte mark)) s

-- The bytes before the first mark are the first piece.
pub cut_first : (mark : ℕ) (piece rest : List ℕ) → free mark piece ≡ true → split mark (piece ++ (mark ∷ rest)) ≡ piece ∷ split mark rest
unfolding split onto free every
cut_first mark [] rest none = rw (eq-eqb mark mark refl)
cut_first mark (byte ∷ piece) rest none =
    let parts = (and-eq-true_iff (not (eqb byte mark)) (free mark piece)).0 none in
    rw (not-true (eqb byte mark) parts.0, cut_first mark piece rest parts.1)

-- Without a mark there is one piece.
pub cut_last : (mark : ℕ) (piece : List ℕ) → free mark piece ≡ true → split mark piece ≡ piece ∷ []
unfolding split onto free every
cut_last mark [] none = refl
cut_last mark (byte ∷ piece) none =
    let parts = (and-eq-true_iff (not (eqb byte mark)) (free mark piece)).0 none in
    rw (not-true (eqb byte mark) parts.0, cut_last mark piece parts.1)

-- ---- texts without a mark

-- Two texts joined,
pub free_join : (mark : ℕ) (s t : List ℕ) → free mark s ≡ true → free mark t ≡ true → free mark (s ++ t) ≡ true
unfolding free every
free_join mark [] t first second = second
free_join mark (byte ∷ s) t first second =
    let parts = (and-eq-true_iff (not (eqb byte mark)) (free mark s)).0 first in
    ap₂ ◌&&◌ parts.0 (free_join mark s t parts.1 second)

-- name bytes, of which the mark is none
free_bytes : (mark : ℕ) (s : List ℕ) → name_byte mark ≡ false → every name_byte s ≡ true → free mark s ≡ true
unfolding free every
free_bytes mark [] other bytes = refl
free_bytes mark (byte ∷ s) other bytes =
    let parts = (and-eq-true_iff (name_byte byte) (every name_byte s)).0 bytes in
    ap₂ ◌&&◌ (go (eqb byte mark) refl parts.0) (free_bytes mark s other parts.1)
  where
    go : (b : Bool) → eqb byte mark ≡ b → name_byte byte ≡ true → not b ≡ true
    go true same is = absurd (false≢true (sym other ∙ sym (ap name_byte (eqb-true byte mark same)) ∙ is))
    go false same is = refl

-- and a name.
pub free_name : (mark : ℕ) (s : List ℕ) → name_byte mark ≡ false → is_name s ≡ true → free mark s ≡ true
unfolding is_name
free_name mark s other name = free_bytes mark s other ((and-eq-true_iff (leb 1 (length s) && leb (length s) 32) (every name_byte s)).0 name).1
