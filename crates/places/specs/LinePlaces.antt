-- The place that is found by going from line to line is that of the piece between LFs.
use Prim.Native.Nat.{ℕ, zero, suc, ◌+◌, ◌-◌, ◌≤◌, ◌<◌, zero-le}
use Rattle.std.specs.Prelude.{Some, None, List, [], ◌∷◌, ◌≡◌, length, get_or, drop}
use Rattle.std.proofs.Math.Path.{refl, subst, subst⁻¹}
use Rattle.std.proofs.Common.{sym, ap, ◌∙◌, lt-ltb, le-ltb, drop-drop}
use Rattle.std.proofs.Math.ListN.{take, length-drop}
use Rattle.std.proofs.Math.Seq.{take-length, length-take-le}
use Rattle.std.proofs.Math.Decide.{dec_lt}
use native.Mathlib.Omega.{arith}
use Rattle.text.specs.Index.{index_of}
use Rattle.text.specs.Pieces.{split}
use Rattle.text.specs.PieceLaws.{split_none, split_some, split_piece}
use Rattle.walking.specs.Meaning.{LF}
use Rattle.places.specs.Place.{span_of}
use Rattle.places.specs.PlaceLaws.{index_most}
use Rattle.places.specs.BadLines.{line_at, bytes_in, start_of, HasLine, PastLast}

-- there is always a piece
pub some_piece : (s : List ℕ) → 0 < length (split LF s)
some_piece s = omega (arith, ap length (split_piece LF s).2)

module _ (text : List ℕ) where
  -- where the first LF from a place on stands, or the end
  abbrev stop : ℕ → ℕ
  stop at = at + index_of LF (drop at text)

  -- The first piece from a place on: the last of all, or an LF follows it.
  data Cut (at : ℕ) (pieces : List (List ℕ)) : Type 0 where
    last : length text ≤ stop at → pieces ≡ drop at text ∷ [] → Cut at pieces
    more : stop at < length text → pieces ≡ take (index_of LF (drop at text)) (drop at text) ∷ split LF (drop (stop at + 1) text) → Cut at pieces

  cut : (at : ℕ) → Cut at (split LF (drop at text))
  cut at = go (dec_lt (stop at) (length text))
    where
      go : Dec (stop at < length text) → Cut at (split LF (drop at text))
      go (yes here) =
          let on : at + suc (index_of LF (drop at text)) ≡ stop at + 1 = omega arith in
          more here
          (split_some LF (drop at text) (omega (arith, length-drop at text))
          ∙ ap (λ (rest : List ℕ). take (index_of LF (drop at text)) (drop at text) ∷ split LF rest) (drop-drop (suc (index_of LF (drop at text))) at text ∙ ap (λ (k : ℕ). drop k text) on))
      go (no end) = last (omega arith) (split_none LF (drop at text) (omega (arith, length-drop at text)))

  -- The line so many lines on from a place is found where it begins, with its bytes.
  pub record Found (at k start : ℕ) (line : List ℕ) : Type 0 where
    pub span : span_of text at k ≡ Some (record { from = start; to = start + length line })
    pub bytes : take (length line) (drop start text) ≡ line

  -- the line at the place itself, and one behind it
  found_here : (at : ℕ) (line : List ℕ) → at < length text → index_of LF (drop at text) ≡ length line → take (length line) (drop at text) ≡ line → Found at 0 at line
  unfolding span_of
  found_here at line inside long bytes = record { span = rw (lt-ltb at (length text) inside) (λ i. Some (record { from = at; to = at + long i })); bytes = bytes }

  found_on : {at k start : ℕ} {line : List ℕ} → stop at < length text → Found (stop at + 1) k start line → Found at (suc k) start line
  unfolding span_of
  found_on {at} here f = record { span = rw (lt-ltb (stop at) (length text) here) f.span; bytes = f.bytes }

  -- what is said of the pieces from a place on: one that is not the empty last one is found, and that one is not
  abbrev Lines : (at k : ℕ) (pieces : List (List ℕ)) → Type 0
  Lines at k pieces = k < length pieces → (suc k ≡ length pieces → 0 < length (get_or pieces k [])) → Found at k (at + bytes_in (take k pieces)) (get_or pieces k [])

  abbrev NoLine : (at k : ℕ) (pieces : List (List ℕ)) → Type 0
  NoLine at k pieces = suc k ≡ length pieces → length (get_or pieces k []) ≡ 0 → span_of text at k ≡ None

  found : (k at : ℕ) {pieces : List (List ℕ)} → at ≤ length text → Cut at pieces → Lines at k pieces
  unfolding bytes_in
  found zero at inside (last end is) = subst⁻¹ (Lines at 0) is (λ within filled.
      let here : at + 0 ≡ at = omega arith in
      let most = index_most LF (drop at text) in
      let some = filled refl in
      subst⁻¹ (λ (start : ℕ). Found at 0 start (drop at text)) here (found_here at (drop at text) (omega (arith, length-drop at text)) (omega (arith, length-drop at text)) (take-length (drop at text))))
  found zero at inside (more here is) = subst⁻¹ (Lines at 0) is (λ within filled.
      let start : at + 0 ≡ at = omega arith in
      let long = length-take-le (index_of LF (drop at text)) (drop at text) (omega (arith, length-drop at text)) in
      subst⁻¹ (λ (start : ℕ). Found at 0 start (take (index_of LF (drop at text)) (drop at text))) start
      (found_here at (take (index_of LF (drop at text)) (drop at text)) (omega arith) (sym long) (ap (λ (n : ℕ). take n (drop at text)) long)))
  found (suc k) at inside (last end is) = subst⁻¹ (Lines at (suc k)) is (λ within filled. absurd (omega arith))
  found (suc k) at inside (more here is) = subst⁻¹ (Lines at (suc k)) is (λ within filled.
      let long = length-take-le (index_of LF (drop at text)) (drop at text) (omega (arith, length-drop at text)) in
      let rest = split LF (drop (stop at + 1) text) in
      let below = found k (stop at + 1) (omega arith) (cut (stop at + 1)) (omega arith) (λ end. filled (omega arith)) in
      let start : stop at + 1 + bytes_in (take k rest) ≡ at + (length (take (index_of LF (drop at text)) (drop at text)) + 1 + bytes_in (take k rest)) = omega arith in
      subst (λ (start : ℕ). Found at (suc k) start (get_or rest k [])) start (found_on here below))

  lost : (k at : ℕ) {pieces : List (List ℕ)} → Cut at pieces → NoLine at k pieces
  unfolding span_of
  lost zero at (last end is) = subst⁻¹ (NoLine at 0) is (λ only empty. rw (le-ltb at (length text) (omega (arith, length-drop at text))))
  lost zero at (more here is) = subst⁻¹ (NoLine at 0) is (λ only empty. absurd (omega (arith, some_piece (drop (stop at + 1) text))))
  lost (suc k) at (last end is) = subst⁻¹ (NoLine at (suc k)) is (λ only empty. absurd (omega arith))
  lost (suc k) at (more here is) = subst⁻¹ (NoLine at (suc k)) is (λ only empty. rw (lt-ltb (stop at) (length text) here) (lost k (stop at + 1) (cut (stop at + 1)) (omega arith) empty))

-- A line of a number is found where it begins.
pub line_found : (n : ℕ) (text : List ℕ) → HasLine n text → Found text 0 (n - 1) (start_of n text) (line_at n text)
unfolding line_at start_of
line_found n text has =
    let here : 0 + bytes_in (take (n - 1) (split LF text)) ≡ bytes_in (take (n - 1) (split LF text)) = omega arith in
    subst (λ (start : ℕ). Found text 0 (n - 1) start (get_or (split LF text) (n - 1) [])) here
    (found text (n - 1) 0 zero-le (cut text 0) (omega (arith, has.from_one, has.within)) (λ end. has.filled (omega (arith, has.from_one))))

-- None is found one past the last.
pub past_lost : (n : ℕ) (text : List ℕ) → PastLast n text → span_of text 0 (n - 1) ≡ None
unfolding line_at
past_lost n text past = lost text (n - 1) 0 (cut text 0) (omega (arith, some_piece text, past.last)) past.empty
