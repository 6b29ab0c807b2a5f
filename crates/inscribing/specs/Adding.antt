-- A piece of text added from a place of a buffer on, in the room that it takes.
use Rattle.std.specs.Prelude.{ℕ, ◌+◌, ◌≤◌, ◌<◌, List, [], ◌++◌, ◌≡◌, refl, length}
use Rattle.std.proofs.Common.{length-append, arith}
use Rattle.writing.specs.Written.{put}
use Rattle.writing.proofs.Buffers.{from, back, wrote, written, wrote_none, wrote_more}
use Rattle.showing.specs.Steps.{Goes, goes_none, goes_both}
use Rattle.spelling.specs.Growth.{Grows, piece_room}

-- The text before a place goes on by a piece, where there is room for it.
abbrev pub Adds : (piece : List ℕ) (at : ℕ) (before : List ℕ) (next : ℕ) (after : List ℕ) → Type 0
Adds piece at before next after = Goes piece (length piece) at before next after

-- nothing; the same piece in other words, and the room for it
pub adds_none : {at : ℕ} {out : List ℕ} → Adds [] at out at out
adds_none = goes_none

pub adds_as : {one two before after : List ℕ} {at next : ℕ} → one ≡ two → Adds one at before next after → Adds two at before next after
adds_as same adds = rw same at adds

pub room_as : (at : ℕ) {one two : List ℕ} {size : ℕ} → one ≡ two → at + length two ≤ size → at + length one ≤ size
room_as at same fits = rw same fits

-- one piece, then another
pub adds_both : {one two before between after : List ℕ} {at to next : ℕ} → Adds one at before to between → Adds two to between next after → Adds (one ++ two) at before next after
adds_both {one} {two} first second = rw (length-append one two) (goes_both first second)

-- a piece that is written into the rest of the buffer
pub adds_piece : {piece out part : List ℕ} {at n : ℕ} → (n ≡ length piece) × (part ≡ put piece (from at out)) → Adds piece at out (at + n) (back at out part)
adds_piece ensured = record { wrote = λ text buffer w room. wrote_more w (wrote ensured); few = omega (arith, ensured.0) }

-- where a text has room, so have both its parts
pub both_room : (at : ℕ) (one two : List ℕ) {size : ℕ} → at + length (one ++ two) ≤ size → at + length one + length two ≤ size
both_room at one two fits = omega (arith, length-append one two)

-- the text that is added at the start is put there
pub adds_all : {text buffer out : List ℕ} {n : ℕ} → Adds text 0 buffer n out → length text ≤ length buffer → (n ≡ length text) × (out ≡ put text buffer)
adds_all adds fits = written (adds.wrote [] _ wrote_none (omega arith))

-- ---- a text that grows by a piece at each step

module _ {text piece : ℕ → List ℕ} (grows : Grows text piece) where
  -- where the whole has room, so has the next piece past those that are added
  pub next_room : (k n at : ℕ) {size : ℕ} → k < n → at + length (text n) ≤ size → at + length (text k) + length (piece k) ≤ size
  next_room k n at below fits = omega (arith, piece_room grows k n {at = length (text k)} {size = length (text n)} below (omega arith) refl)

  -- the next piece is added past them
  pub adds_next : (k : ℕ) {at to next : ℕ} {before out after : List ℕ} → Adds (text k) at before to out → Adds (piece k) to out next after → Adds (text (k + 1)) at before next after
  adds_next k done more = adds_as (grows.next k) (adds_both done more)
