-- Laws of bytes put into a buffer, and of a text written into it piece after piece.
use Rattle.std.specs.Prelude.{ℕ, ◌+◌, ◌-◌, ◌≤◌, ◌<◌, List, [], ◌∷◌, ◌++◌, ◌≡◌, refl, length, get_or, set, take, drop}
use Rattle.std.proofs.Common.{append_assoc, append-nil, sym, ap, ap₂, ◌∙◌, length-append, length-drop, drop_of_length-le, drop-drop, take-suc, add-one, arith}
use Rattle.std.proofs.Math.Seq.{take-append_seam, drop-append_seam, take-length}
use Rattle.std.proofs.lemmas.List.{set_split}
use Rattle.text.specs.PieceLaws.{part_rest}
use Rattle.writing.specs.Written.{put}

-- ---- bytes put at the start

-- no bytes leave the buffer as it was
pub put_none : (buffer : List ℕ) → put [] buffer ≡ buffer
unfolding put
put_none buffer = refl

-- a copy of all the bytes puts them
pub put_copied : (bytes buffer : List ℕ) → take (length bytes) bytes ++ drop (length bytes) buffer ≡ put bytes buffer
unfolding put
put_copied bytes buffer = rw (take-length bytes)

-- bytes that the buffer has room for leave its length
pub put_length : (bytes buffer : List ℕ) → length bytes ≤ length buffer → length (put bytes buffer) ≡ length buffer
unfolding put
put_length bytes buffer fits = simp (length-append, length-drop) (omega arith)

-- what stands before the place past the bytes, and from there on
pub put-before : (bytes buffer : List ℕ) → take (length bytes) (put bytes buffer) ≡ bytes
unfolding put
put-before bytes buffer = take-append_seam bytes (drop (length bytes) buffer)

pub put-past : (bytes buffer : List ℕ) → drop (length bytes) (put bytes buffer) ≡ drop (length bytes) buffer
unfolding put
put-past bytes buffer = drop-append_seam bytes (drop (length bytes) buffer)

-- a second piece put past a first is both put at once
pub put_more : (a b buffer : List ℕ) → take (length a) (put a buffer) ++ put b (drop (length a) (put a buffer)) ≡ put (a ++ b) buffer
unfolding put
put_more a b buffer =
    rw (put-before a buffer, put-past a buffer, drop-drop (length b) (length a) buffer, length-append a b, append_assoc)

-- ---- a text written piece after piece

-- A text is put at the start of a buffer, which is now `out`, and `at` is the place past the text.
pub record Wrote (text buffer : List ℕ) (at : ℕ) (out : List ℕ) : Type 0 where
  pub place : at ≡ length text
  pub held : out ≡ put text buffer

-- what is lent of a buffer from a place on, and the buffer once another part is given back
abbrev pub from : ℕ → List ℕ → List ℕ
from at out = take (length out - at) (drop at out)

abbrev pub back : ℕ → (out part : List ℕ) → List ℕ
back at out part = take at out ++ (part ++ drop (length out - at) (drop at out))

-- what a function that writes a text ensures, and what it has to show
pub wrote : {text buffer out : List ℕ} {at : ℕ} → (at ≡ length text) × (out ≡ put text buffer) → Wrote text buffer at out
wrote ensured = record { place = ensured.0; held = ensured.1 }

pub written : {text buffer out : List ℕ} {at : ℕ} → Wrote text buffer at out → (at ≡ length text) × (out ≡ put text buffer)
written w = (w.place, w.held)

-- nothing is written at first
pub wrote_none : {buffer : List ℕ} → Wrote [] buffer 0 buffer
wrote_none {buffer} = record { place = refl; held = sym (put_none buffer) }

-- what the buffer becomes by another piece put past the text
past : {a buffer out : List ℕ} {at : ℕ} (b : List ℕ) → Wrote a buffer at out → take at out ++ put b (drop at out) ≡ put (a ++ b) buffer
past {a} {buffer} b w = ap₂ (λ (k : ℕ) (l : List ℕ). take k l ++ put b (drop k l)) w.place w.held ∙ put_more a b buffer

-- another piece is written past the text
pub wrote_more : {a b buffer out part : List ℕ} {at n : ℕ} → Wrote a buffer at out → Wrote b (from at out) n part → Wrote (a ++ b) buffer (at + n) (back at out part)
wrote_more {a} {b} {buffer} {out} {part} {at} {n} w v =
    let none : drop (length out - at) (drop at out) ≡ [] = drop_of_length-le (drop at out) {i = length out - at} (omega (arith, length-drop at out)) in
    let piece : part ++ drop (length out - at) (drop at out) ≡ put b (drop at out) = rw (none, append-nil part, v.held, part_rest at out) in
    record {
      place = ap₂ ◌+◌ w.place v.place ∙ sym (length-append a b);
      held = ap (λ (l : List ℕ). take at out ++ l) piece ∙ past b w;
    }

-- the same text in other words
pub wrote_as : {a b buffer out : List ℕ} {at : ℕ} → a ≡ b → Wrote a buffer at out → Wrote b buffer at out
wrote_as same w = rw same at w

-- a text that the buffer has room for leaves its length, and ends within it
pub wrote_length : {text buffer out : List ℕ} {at : ℕ} → Wrote text buffer at out → at ≤ length buffer → length out ≡ length buffer
wrote_length {text} {buffer} w fits = ap length w.held ∙ put_length text buffer (omega (arith, w.place))

pub wrote_within : {text buffer out : List ℕ} {at : ℕ} → Wrote text buffer at out → at ≤ length buffer → at ≤ length out
wrote_within w fits = omega (arith, wrote_length w fits)

-- the room for another byte, and for another piece
pub byte_room : {text buffer out : List ℕ} {at : ℕ} → Wrote text buffer at out → at < length buffer → at < length out
byte_room w fits = omega (arith, wrote_length w (omega arith))

pub room : {text buffer out : List ℕ} {at : ℕ} (piece : List ℕ) → Wrote text buffer at out → at + length piece ≤ length buffer → length piece ≤ length (from at out)
room {out} {at} piece w fits =
    let same = wrote_length w (omega arith) in
    rw (part_rest at out) (omega (arith, length-drop at out))

-- a byte is written past the text
pub wrote_byte : {text buffer out : List ℕ} {at : ℕ} (byte : ℕ) → Wrote text buffer at out → at < length buffer → Wrote (text ++ (byte ∷ [])) buffer (at + 1) (set out at byte)
unfolding put
wrote_byte {text} {buffer} {out} {at} byte w fits =
    record {
      place = omega (arith, length-append text (byte ∷ []), w.place);
      held = rw (set_split out at byte (byte_room w fits), ← add-one at, ← drop-drop 1 at out) (past (byte ∷ []) w);
    }

-- the next byte of a text that is written one by one, and the last
pub wrote-next : {buffer out : List ℕ} {at : ℕ} (text : List ℕ) → Wrote (take at text) buffer at out → at < length text → length text ≤ length buffer
    → Wrote (take (at + 1) text) buffer (at + 1) (set out at (get_or text at 0))
wrote-next {at} text w more fits =
    rw (add-one at, take-suc text at 0 more, ← add-one at) (wrote_byte (get_or text at 0) w (omega arith))

pub wrote_all : {buffer out : List ℕ} {at : ℕ} (text : List ℕ) → Wrote (take at text) buffer at out → at ≡ length text → Wrote text buffer at out
wrote_all text w all = wrote_as (ap (λ (k : ℕ). take k text) all ∙ take-length text) w
