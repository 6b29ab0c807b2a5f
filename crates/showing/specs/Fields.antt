-- A line's fields, parted by tabs, and a line shown in a lent buffer.
use Rattle.std.specs.Prelude.{ℕ, cond, List, [], ◌∷◌, ◌++◌, leb, length}
use Rattle.text.specs.Forms.{bytes}
use Rattle.writing.specs.Written.{put, decimal}

-- a field after its tab
unfoldable pub field : List ℕ → List ℕ
field text = bytes "\t" ++ text

-- a text, and past it the field of each number, in decimal
unfoldable pub fields_on : List ℕ → (numbers : List ℕ) → List ℕ
fields_on text [] = text
fields_on text (number ∷ numbers) = fields_on (text ++ field (decimal number)) numbers

-- A line shown in a lent buffer: its length and the line at the buffer's start, or 0 and the buffer as it was where it is too short.
unfoldable pub shown_length : (line buffer : List ℕ) → ℕ
shown_length line buffer = cond (leb (length line) (length buffer)) (length line) 0

unfoldable pub shown : (line buffer : List ℕ) → List ℕ
shown line buffer = cond (leb (length line) (length buffer)) (put line buffer) buffer
