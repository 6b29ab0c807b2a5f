-- One line of a typing: when it is malformed, and when it names what it must not (document 01, "The texts").
use Rattle.std.specs.Prelude.{ℕ, ◌+◌, Bool, true, false, cond, ◌&&◌, List, [], ◌∷◌, leb, eqb, length, Result, Ok, Err}
use Rattle.tables.specs.declared.Name.{Name}
use Rattle.text.specs.Forms.{bytes, is_name, is_set, is_label}
use Rattle.text.specs.Pieces.{split, same_bytes}
use Rattle.walking.specs.declared.Fault.{Fault}
use Rattle.fields.specs.Fields.{placed, all_declared, roles_of}
use Rattle.typings.specs.declared.TypingEntry.{TypingEntry}

-- A line by its fields.
pub data Line : Type 0 where
  header : (edition : List ℕ) → Line
  row : (name label plus minus : List ℕ) → Line
  end : Line
  other : Line

unfoldable pub one_field : List ℕ → Line
one_field word = cond (same_bytes word (bytes "end")) end other

unfoldable pub two_fields : (word field : List ℕ) → Line
two_fields word field = cond (same_bytes word (bytes "typing")) (header field) other

unfoldable pub line_of : List (List ℕ) → Line
line_of [] = other
line_of (w ∷ []) = one_field w
line_of (w ∷ a ∷ []) = two_fields w a
line_of (w ∷ a ∷ b ∷ []) = other
line_of (w ∷ a ∷ b ∷ c ∷ []) = row w a b c
line_of (w ∷ a ∷ b ∷ c ∷ d ∷ more) = other

-- The header first, then a row for each role, then `end`: before the header the stage is 0, and it counts the lines read.
unfoldable pub well_formed : (stage roles : ℕ) → Line → Bool
well_formed stage roles (header edition) = eqb stage 0 && same_bytes edition (bytes "1")
well_formed stage roles (row name label plus minus) = leb 1 stage && leb stage roles && is_name name && is_label label && (is_set plus && is_set minus)
well_formed stage roles end = eqb stage (roles + 1)
well_formed stage roles other = false

-- A row has its role's name at its place, and its sets name declared roles.
unfoldable pub named : (stage : ℕ) → List Name → Line → Bool
named stage names (header edition) = true
named stage names (row name label plus minus) = eqb (placed names name + 1) stage && (all_declared names plus && all_declared names minus)
named stage names end = true
named stage names other = true

-- What the line says.
unfoldable pub entry : List Name → Line → TypingEntry
entry names (header edition) = TypingEntry.Header
entry names (row name label plus minus) = TypingEntry.Row (same_bytes label (bytes "H")) (roles_of names plus) (roles_of names minus)
entry names end = TypingEntry.End
entry names other = TypingEntry.End

-- What the line comes to: malformed, then names, and else what it says.
abbrev pub tested : (formed known : Bool) → (says : TypingEntry) → Result TypingEntry Fault
tested formed known says = cond formed (cond known (Ok says) (Err Fault.Undeclared)) (Err Fault.Malformed)

unfoldable pub judged : (stage : ℕ) → List Name → Line → Result TypingEntry Fault
judged stage names line = tested (well_formed stage (length names) line) (named stage names line) (entry names line)

unfoldable pub typing_line : (stage : ℕ) → List Name → List ℕ → Result TypingEntry Fault
typing_line stage names line = judged stage names (line_of (split 9 line))
