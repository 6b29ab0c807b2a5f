-- How a line is shown in a lent buffer, and that the length that is answered counts bytes at its start.
use Rattle.std.specs.Prelude.{ℕ, ◌≤◌, ◌<◌, Bool, true, false, cond, List, ◌≡◌, refl, leb, length, take}
use Rattle.std.proofs.Common.{zero-le, sym, ap, subst, ◌∙◌, le-leb, leb-true, length-take-le, arith}
use Rattle.std.proofs.lemmas.Bool.{lt-leb}
use Rattle.writing.specs.Written.{put}
use Rattle.writing.proofs.Buffers.{put_length}
use Rattle.showing.specs.Fields.{shown_length, shown}

-- A line is shown in a buffer: the length that is answered and the buffer afterwards are its own, and the length counts bytes of the buffer.
abbrev pub Shows : (line buffer : List ℕ) (written : ℕ) (after : List ℕ) → Type 0
Shows line buffer written after = (written ≡ shown_length line buffer) × ((after ≡ shown line buffer) × ((written ≤ length after) × (written ≡ length (take written after))))

shown_within : (line out : List ℕ) → shown_length line out ≤ length (shown line out)
unfolding shown_length shown
shown_within line out = go (leb (length line) (length out)) refl
  where
    go : (b : Bool) → leb (length line) (length out) ≡ b → cond b (length line) 0 ≤ length (cond b (put line out) out)
    go true fit = omega (arith, put_length line out (leb-true (length line) (length out) fit), leb-true (length line) (length out) fit)
    go false short = zero-le

counted : (line out : List ℕ) {written : ℕ} {after : List ℕ} → written ≡ shown_length line out → after ≡ shown line out → Shows line out written after
counted line out {written} {after} length-is text-is =
    let within : written ≤ length after = omega (arith, length-is, ap length text-is, shown_within line out) in
    (length-is, (text-is, (within, sym (length-take-le written after within))))

-- nothing is shown where the buffer is too short
pub too_short : (line out : List ℕ) → length out < length line → Shows line out 0 out
unfolding shown_length shown
too_short line out short =
    let no = lt-leb (length line) (length out) short in
    counted line out (sym (ap (λ (b : Bool). cond b (length line) 0) no)) (sym (ap (λ (b : Bool). cond b (put line out) out) no))

-- and else the line
pub fits : (line out : List ℕ) {written : ℕ} {after : List ℕ} → length line ≤ length out → (written ≡ length line) × (after ≡ put line out) → Shows line out written after
unfolding shown_length shown
fits line out room ensured =
    let yes = le-leb (length line) (length out) room in
    counted line out (ensured.0 ∙ sym (ap (λ (b : Bool). cond b (length line) 0) yes)) (ensured.1 ∙ sym (ap (λ (b : Bool). cond b (put line out) out) yes))

-- a line is shown as another name of it
pub shows_as : (out : List ℕ) {line other after : List ℕ} {written : ℕ} → line ≡ other → Shows line out written after → Shows other out written after
shows_as out {after = after} {written} same shows = subst (λ (l : List ℕ). Shows l out written after) same shows
