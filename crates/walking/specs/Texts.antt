-- How a text is read line by line: the first bad line decides, and a text ends with its `end` line.
use Rattle.std.specs.Prelude.{ℕ, suc, cond, List, [], ◌∷◌, ltb, length}
use Rattle.text.specs.Pieces.{split}

-- What a line does to what was read above it: it adds to it, it is `end`, or it is refused with a number.
pub data Judged (S : Type 0) : Type 0 where
  goes : S → Judged S
  ends : Judged S
  bad : ℕ → Judged S

-- What a text gives: what was read, or a refusal's number and line.
pub data Reading (S : Type 0) : Type 0 where
  read : S → Reading S
  refused : (number line : ℕ) → Reading S

module _ {S : Type 0} (judge : S → List ℕ → Judged S) (malformed : ℕ) where
  -- after `end`: nothing may follow its LF
  unfoldable pub closing : S → ℕ → List (List ℕ) → Reading S
  closing s line ([] ∷ []) = read s
  closing s line [] = refused malformed line
  closing s line ([] ∷ next ∷ more) = refused malformed line
  closing s line ((byte ∷ rest) ∷ more) = refused malformed line

  -- what a judged line leads to, where the reading of the lines below is given
  unfoldable pub onward : Judged S → S → ℕ → List (List ℕ) → (S → Reading S) → Reading S
  onward (goes t) s line below reading = reading t
  onward ends s line below reading = closing s (suc line) below
  onward (bad number) s line below reading = refused number line

  -- The lines from a number on, in pieces between LFs. The last piece is what follows the last LF: a line without LF or, where
  -- it is empty, no line. Either way `end` is missing, and the text is malformed at that number.
  unfoldable pub read_lines : S → ℕ → List (List ℕ) → Reading S
  read_lines s line [] = refused malformed line
  read_lines s line (tail ∷ []) = refused malformed line
  read_lines s line (first ∷ next ∷ more) = onward (judge s first) s line (next ∷ more) (λ t. read_lines t (suc line) (next ∷ more))

  -- A text above 32,768 bytes is refused whole; any other is read from line 1.
  unfoldable pub read_text : ℕ → S → List ℕ → Reading S
  read_text long s text = cond (ltb 32768 (length text)) (refused long 0) (read_lines s 1 (split 10 text))
