-- A whole typing text: what each line adds, and what the text is read as.
use Rattle.std.specs.Prelude.{ℕ, suc, Bool, false, List, [], ◌∷◌, ◌++◌, Result, Ok, Err}
use Rattle.roles.specs.declared.RoleSet.{RoleSet}
use Rattle.roles.specs.Sets.{empty_set}
use Rattle.model.specs.declared.Typing.{Typing as Table}
use Rattle.tables.specs.declared.Name.{Name}
use Rattle.walking.specs.declared.Fault.{Fault}
use Rattle.walking.specs.declared.Refusal.{Refusal}
use Rattle.walking.specs.Faults.{evidence_number}
use Rattle.walking.specs.Texts.{Judged, goes, ends, bad, Reading, read, refused, read_text}
use Rattle.tables.specs.Padded.{padded}
use Rattle.typings.specs.declared.TypingEntry.{TypingEntry}
use Rattle.typings.specs.TypingLines.{typing_line}

-- What the rows so far say, in role order, and how many lines there are.
pub record Typed : Type 0 where
  pub stage : ℕ
  pub labels : List Bool
  pub plus : List RoleSet
  pub minus : List RoleSet

-- before the first line
unfoldable pub untyped : Typed
untyped = record { stage = 0; labels = []; plus = []; minus = [] }

-- after the header, and after a row
abbrev pub headed : Typed → Typed
headed s = record { stage = 1; labels = s.labels; plus = s.plus; minus = s.minus }

abbrev pub rowed : Typed → Bool → RoleSet → RoleSet → Typed
rowed s label plus minus = record { stage = suc s.stage; labels = s.labels ++ (label ∷ []); plus = s.plus ++ (plus ∷ []); minus = s.minus ++ (minus ∷ []) }

unfoldable pub added : Typed → TypingEntry → Judged Typed
added s TypingEntry.Header = goes (headed s)
added s (TypingEntry.Row label plus minus) = goes (rowed s label plus minus)
added s TypingEntry.End = ends

unfoldable pub answered : Typed → Result TypingEntry Fault → Judged Typed
answered s (Ok e) = added s e
answered s (Err fault) = bad (evidence_number fault)

unfoldable pub judge_line : List Name → Typed → List ℕ → Judged Typed
judge_line names s line = answered s (typing_line s.stage names line)

-- The whole text over the policy's role names: 14 where it is too long, 15 where `end` is missing or not the last line.
unfoldable pub read_typing : List Name → List ℕ → Reading Typed
read_typing names text = read_text (judge_line names) 15 14 untyped text

-- the rows laid out in arrays, with L and the empty set past them
unfoldable pub table_of : Typed → Table
table_of s = record { labels = padded 128 false s.labels; plus = padded 128 empty_set s.plus; minus = padded 128 empty_set s.minus }

-- a refused text gives the refusal's number and line
abbrev pub refused_typing : (number line : ℕ) → Result Table Refusal
refused_typing number line = Err (record { number = number; line = line })

unfoldable pub answer_of : Reading Typed → Result Table Refusal
answer_of (read s) = Ok (table_of s)
answer_of (refused number line) = refused_typing number line

unfoldable pub typing_read : List Name → List ℕ → Result Table Refusal
typing_read names text = answer_of (read_typing names text)
