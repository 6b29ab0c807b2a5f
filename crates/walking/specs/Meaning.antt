-- What it means that a text is read or refused (document 01, "The texts").
use Rattle.std.specs.Prelude.{ℕ, suc, ◌≤◌, ◌<◌, List, [], ◌∷◌, ◌++◌, ◌≡◌, length}
use Rattle.walking.specs.Texts.{Judged, goes, ends, bad}

-- The byte that ends a line.
abbrev pub LF : ℕ
LF = 10

-- Bytes without LF.
pub data Unbroken : List ℕ → Type 0 where
  none : Unbroken []
  more : {byte : ℕ} {rest : List ℕ} → (byte ≡ LF → ⊥) → Unbroken rest → Unbroken (byte ∷ rest)

module _ {S : Type 0} (judge : S → List ℕ → Judged S) (start : S) (text : List ℕ) where
  -- All lines above a line are good: the line's number, what the lines above say, and the bytes from the line on.
  pub data Above : (number : ℕ) (said : S) (left : List ℕ) → Type 0 where
    first : Above 1 start text
    next : {n : ℕ} {s t : S} {line rest : List ℕ} → Above n s (line ++ (LF ∷ rest)) → Unbroken line → judge s line ≡ goes t → Above (suc n) t rest

  -- A line is judged: the text is not too long, all lines above are good, and the line has its LF. Its number, what the lines
  -- above say, its bytes, and those after its LF.
  pub record LineAt (number : ℕ) (said : S) (line rest : List ℕ) : Type 0 where
    pub fits : length text ≤ 32768
    pub above : Above number said (line ++ (LF ∷ rest))
    pub unbroken : Unbroken line

  -- The text is read: some line, all above it good, is `end`, and nothing follows its LF.
  pub record ReadAs (said : S) : Type 0 where
    pub number : ℕ
    pub line : List ℕ
    pub last : LineAt number said line []
    pub is_end : judge said line ≡ ends

module _ {S : Type 0} (judge : S → List ℕ → Judged S) (malformed long : ℕ) (start : S) (text : List ℕ) where
  -- The text is refused with a number at a line, for one of four reasons: it is too long; the line, all above it good, is bad;
  -- all lines above are good and no LF is left, so that the last line has none or `end` is missing one past the last line; a
  -- byte follows the LF of `end`.
  pub data Refusal : (number line : ℕ) → Type 0 where
    too_long : 32768 < length text → Refusal long 0
    bad_line_lem : {k n : ℕ} {s : S} {line rest : List ℕ} → LineAt judge start text n s line rest → judge s line ≡ bad k → Refusal k n
    no_end : {n : ℕ} {s : S} {tail : List ℕ} → length text ≤ 32768 → Above judge start text n s tail → Unbroken tail → Refusal malformed n
    after_end : {n : ℕ} {s : S} {line rest : List ℕ} {byte : ℕ} → LineAt judge start text n s line (byte ∷ rest) → judge s line ≡ ends → Refusal malformed (suc n)
