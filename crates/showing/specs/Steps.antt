-- A line written field after field at the start of a buffer.
use Rattle.std.specs.Prelude.{ℕ, ◌+◌, ◌*◌, ◌-◌, ◌≤◌, ◌<◌, List, [], ◌∷◌, ◌++◌, ◌≡◌, refl, length, get_or, set, take}
use borrow.Rule.Slice.PartMut.{same_len_mid}
use Rattle.std.proofs.Common.{append_assoc, append-nil, sym, ap, ap₂, ◌∙◌, length-set, length-drop, take-suc, add-one, arith}
use Rattle.std.proofs.Math.Seq.{take-length}
use Rattle.text.specs.Forms.{bytes}
use Rattle.text.specs.PieceLaws.{part_rest}
use Rattle.tables.specs.declared.Name.{Name}
use Rattle.writing.specs.Written.{put, decimal, spelled}
use Rattle.writing.specs.Spelling.{spelled_length}
use Rattle.writing.proofs.Buffers.{Wrote, from, back, wrote, wrote_as, wrote_more, wrote_byte, wrote_length, put-before}
use Rattle.showing.specs.Fields.{field, fields_on}

-- The text before a place goes on by a piece of at most so many bytes, where there is room for them.
pub record Goes (piece : List ℕ) (most at : ℕ) (before : List ℕ) (next : ℕ) (after : List ℕ) : Type 0 where
  pub wrote : (text buffer : List ℕ) → Wrote text buffer at before → at + most ≤ length buffer → Wrote (text ++ piece) buffer next after
  pub few : next ≤ at + most

-- the room past a tab
pub past-tab : (out : List ℕ) (at : ℕ) → at < length out → at + 1 ≤ length (set out at 9)
past-tab out at here = omega (arith, length-set out at 9)

pub field_room : (piece out : List ℕ) (at most : ℕ) → length piece ≤ most → at + (most + 1) ≤ length out → length piece ≤ length (from (at + 1) (set out at 9))
field_room piece out at most few room = rw (part_rest (at + 1) (set out at 9)) (omega (arith, length-drop (at + 1) (set out at 9), length-set out at 9))

pub field_length : (out part : List ℕ) (at : ℕ) → length part ≡ length (from (at + 1) (set out at 9)) → length (back (at + 1) (set out at 9) part) ≡ length out
field_length out part at same = same_len_mid (at + 1) (length (set out at 9) - (at + 1)) (set out at 9) part same ∙ length-set out at 9

-- a tab, then the field
pub goes_field : (piece : List ℕ) {out part : List ℕ} {most at n : ℕ} → length piece ≤ most → (n ≡ length piece) × (part ≡ put piece (from (at + 1) (set out at 9)))
    → Goes (field piece) (most + 1) at out (at + 1 + n) (back (at + 1) (set out at 9) part)
unfolding field
goes_field piece {out} {part} {most} {at} {n} few ensured = record {
  wrote = λ text buffer w room. wrote_as (append_assoc text (9 ∷ []) piece) (wrote_more (wrote_byte 9 w (omega arith)) (wrote ensured));
  few = omega (arith, ensured.0);
}

-- a field in the room that it takes: its text and the tab
pub field_size : (text : List ℕ) → length (field text) ≡ length text + 1
unfolding field
field_size text = omega arith

pub goes_whole : (text : List ℕ) {out part : List ℕ} {at n : ℕ} → (n ≡ length text) × (part ≡ put text (from (at + 1) (set out at 9)))
    → Goes (field text) (length (field text)) at out (at + 1 + n) (back (at + 1) (set out at 9) part)
goes_whole text ensured = rw (field_size text) (goes_field text (omega arith) ensured)

-- a name's field has 33 bytes at most
pub name_most : (name : Name) → length (field (spelled name)) ≤ 33
name_most name = omega (arith, field_size (spelled name), spelled_length name)

-- what goes on by few bytes goes on by no more than many
pub goes_within : {piece before after : List ℕ} {few many at next : ℕ} → few ≤ many → Goes piece few at before next after → Goes piece many at before next after
goes_within most goes = record { wrote = λ text buffer w room. goes.wrote text buffer w (omega (arith, room)); few = omega (arith, goes.few) }

-- the LF
pub goes_end : {out : List ℕ} {at : ℕ} → Goes (bytes "\n") 1 at out (at + 1) (set out at 10)
goes_end {out} {at} = record { wrote = λ text buffer w room. wrote_byte 10 w (omega arith); few = omega arith }

-- nothing
pub goes_none : {most at : ℕ} {out : List ℕ} → Goes [] most at out at out
goes_none = record { wrote = λ text buffer w room. wrote_as (sym (append-nil text)) w; few = omega arith }

-- one piece, then another
pub goes_both : {one two before between after : List ℕ} {most more at to next : ℕ} → Goes one most at before to between → Goes two more to between next after → Goes (one ++ two) (most + more) at before next after
goes_both {one} {two} first second = record {
  wrote = λ text buffer w room. wrote_as (append_assoc text one two) (second.wrote _ _ (first.wrote text buffer w (omega (arith, room))) (omega (arith, room, first.few)));
  few = omega (arith, first.few, second.few);
}

-- A text of at most so many bytes stands at the start of a buffer.
pub record Line (text : List ℕ) (most : ℕ) (buffer : List ℕ) (next : ℕ) (out : List ℕ) : Type 0 where
  pub wrote : Wrote text buffer next out
  pub few : next ≤ most

-- a word begins a line
pub line_word : {word buffer out : List ℕ} {at : ℕ} (most : ℕ) → length word ≤ most → (at ≡ length word) × (out ≡ put word buffer) → Line word most buffer at out
line_word most few ensured = record { wrote = wrote ensured; few = omega (arith, ensured.0) }

-- and a piece goes on with it
pub line_on : {text piece buffer out after : List ℕ} {far most at next : ℕ} → Line text far buffer at out → Goes piece most at out next after → far + most ≤ length buffer
    → Line (text ++ piece) (far + most) buffer next after
line_on line goes room = record { wrote = goes.wrote _ _ line.wrote (omega (arith, line.few)); few = omega (arith, line.few, goes.few) }

-- two pieces go on with it
pub line_both : (one two : List ℕ) {text buffer out after : List ℕ} {far most at next : ℕ} → Line text far buffer at out → Goes (one ++ two) most at out next after → far + most ≤ length buffer → Line (text ++ one ++ two) (far + most) buffer next after
line_both one two {text} line goes room = let on = line_on line goes room in record { wrote = wrote_as (sym (append_assoc text one two)) on.wrote; few = on.few }

-- ---- the fields of numbers, one after another

-- The text before a place goes on by the fields of numbers, at most so many bytes, where there is room for them.
pub record GoesOn (numbers : List ℕ) (most at : ℕ) (before : List ℕ) (next : ℕ) (after : List ℕ) : Type 0 where
  pub wrote : (text buffer : List ℕ) → Wrote text buffer at before → at + most ≤ length buffer → Wrote (fields_on text numbers) buffer next after
  pub few : next ≤ at + most

fields_more : (text numbers : List ℕ) (number : ℕ) → fields_on text (numbers ++ (number ∷ [])) ≡ fields_on text numbers ++ field (decimal number)
unfolding fields_on
fields_more text [] number = refl
fields_more text (first ∷ numbers) number = fields_more (text ++ field (decimal first)) numbers number

-- none at first
pub fields_none : {at : ℕ} {out : List ℕ} → GoesOn [] 0 at out at out
unfolding fields_on
fields_none = record { wrote = λ text buffer w room. w; few = omega arith }

-- the next one
pub fields-next : (numbers : List ℕ) {at to next i : ℕ} {before out after : List ℕ} → i < length numbers → GoesOn (take i numbers) (21 * i) at before to out → Goes (field (decimal (get_or numbers i 0))) 21 to out next after
    → GoesOn (take (i + 1) numbers) (21 * (i + 1)) at before next after
fields-next numbers {at} {to} {next} {i} more gone goes = record {
  wrote = λ text buffer w room.
      let taken : take (i + 1) numbers ≡ take i numbers ++ (get_or numbers i 0 ∷ []) = ap (λ (k : ℕ). take k numbers) (add-one i) ∙ take-suc numbers i 0 more in
      wrote_as (sym (ap (fields_on text) taken ∙ fields_more text (take i numbers) (get_or numbers i 0))) (goes.wrote _ _ (gone.wrote text buffer w (omega (arith, room))) (omega (arith, room, gone.few)));
  few = omega (arith, gone.few, goes.few);
}

-- all of them
pub fields_all : (numbers : List ℕ) {at to i : ℕ} {before out : List ℕ} → i ≡ length numbers → GoesOn (take i numbers) (21 * i) at before to out → GoesOn numbers (21 * length numbers) at before to out
fields_all numbers {at} {to} {i} {before} {out} all gone = record {
  wrote = λ text buffer w room. wrote_as (ap (fields_on text) (ap (λ (k : ℕ). take k numbers) all ∙ take-length numbers)) (gone.wrote text buffer w (omega (arith, room, all)));
  few = omega (arith, gone.few, all);
}

-- and past a word
pub line_numbers : {word numbers buffer out after : List ℕ} {far most at next : ℕ} → Line word far buffer at out → GoesOn numbers most at out next after → far + most ≤ length buffer
    → Line (fields_on word numbers) (far + most) buffer next after
line_numbers line gone room = record { wrote = gone.wrote _ _ line.wrote (omega (arith, line.few)); few = omega (arith, line.few, gone.few) }

-- ---- the line in its buffer

-- a line that is made leaves the buffer's length
pub line_length_lem : {line : List ℕ} {most count : ℕ} {space buffer : List ℕ} → Line line most space count buffer → most ≤ length space → length buffer ≡ length space
line_length_lem line fits = wrote_length line.wrote (omega (arith, line.few))

-- a line that is made stands at the start of the buffer that it is made in
pub taken : {line : List ℕ} {most count : ℕ} {space buffer : List ℕ} → Line line most space count buffer → take count buffer ≡ line
taken {line} {space = space} wrote = ap₂ take wrote.wrote.place wrote.wrote.held ∙ put-before line space

pub taken_length : {line : List ℕ} {most count : ℕ} {space buffer : List ℕ} → Line line most space count buffer → count ≡ length (take count buffer)
taken_length wrote = wrote.wrote.place ∙ sym (ap length (taken wrote))
