-- The number under which a reader judges a line is the line's number among the pieces between LFs.
use Rattle.std.specs.Prelude.{ℕ, suc, ◌+◌, ◌-◌, ◌<◌, Bool, true, false, cond, List, [], ◌∷◌, ◌++◌, ◌⊎◌, ◌≡◌, refl, eqb, length, get_or}
use Rattle.std.proofs.Common.{append_assoc, inl, inr, sym, ap, ◌∙◌, length-append, arith}
use Rattle.std.proofs.lemmas.List.{get_or_at}
use Rattle.std.proofs.Math.Decide.{ℕ_discrete}
use Rattle.text.specs.Pieces.{split, onto}
use Rattle.text.specs.PieceLaws.{split_piece}
use Rattle.walking.specs.Texts.{Judged}
use Rattle.walking.specs.Meaning.{LF, Unbroken, Above, LineAt}
use Rattle.walking.specs.MeaningLaws.{one_piece, line_piece}
use Rattle.walking.specs.Meaning as exact
use Rattle.places.specs.BadLines.{line_at, HasLine, PastLast}
use Rattle.places.specs.LinePlaces.{some_piece}

-- a piece behind so many others is the line of the next number
record Line (n : ℕ) (text line : List ℕ) (below : List (List ℕ)) : Type 0 where
  is : line_at n text ≡ line
  from_one : 0 < n
  pieces : length (split LF text) ≡ n + length below

line_behind : {n : ℕ} {text : List ℕ} (above : List (List ℕ)) (line : List ℕ) (below : List (List ℕ)) → split LF text ≡ above ++ (line ∷ below) → n ≡ suc (length above) → Line n text line below
unfolding line_at
line_behind {n} above line below cut number = record {
  is = ap (λ (ps : List (List ℕ)). get_or ps (n - 1) []) cut ∙ get_or_at above line below [] (n - 1) (omega arith);
  from_one = omega arith;
  pieces = ap length cut ∙ length-append above (line ∷ below) ∙ omega arith;
}

-- the first of several pieces, or of bytes
record First (pieces : List (List ℕ)) : Type 0 where
  first : List ℕ
  below : List (List ℕ)
  is : pieces ≡ first ∷ below
  filled : length below ≡ 0 → 0 < length first

first-bytes : (byte : ℕ) (rest : List ℕ) → First (split LF (byte ∷ rest))
unfolding split onto
first-bytes byte rest = go (eqb byte LF) (split_piece LF rest)
  where
    go : (t : Bool) → (first : List ℕ) × (below : List (List ℕ)) × (split LF rest ≡ first ∷ below) → First (cond t ([] ∷ split LF rest) (onto byte (split LF rest)))
    go true (first, below, is) = record { first = []; below = split LF rest; is = refl; filled = λ none. absurd (omega (arith, some_piece rest)) }
    go false (first, below, is) = record { first = byte ∷ first; below = below; is = ap (onto byte) is; filled = λ none. omega arith }

-- the pieces above what is left
record Behind (text : List ℕ) (n : ℕ) (left : List ℕ) : Type 0 where
  above : List (List ℕ)
  pieces : split LF text ≡ above ++ split LF left
  number : n ≡ suc (length above)

-- with one line more
behind_next : {text : List ℕ} {n : ℕ} {line rest : List ℕ} → Behind text n (line ++ (LF ∷ rest)) → Unbroken line → Behind text (suc n) rest
behind_next {line = line} {rest = rest} b unbroken = record {
  above = b.above ++ (line ∷ []);
  pieces = b.pieces ∙ ap (λ (ps : List (List ℕ)). b.above ++ ps) (line_piece unbroken rest) ∙ sym (append_assoc b.above (line ∷ []) (split LF rest));
  number = omega (arith, b.number, length-append b.above (line ∷ []));
}

module _ {S : Type 0} {judge : S → List ℕ → Judged S} {start : S} {text : List ℕ} where
  behind : {n : ℕ} {s : S} {left : List ℕ} → Above judge start text n s left → Behind text n left
  behind exact.first = record { above = []; pieces = refl; number = refl }
  behind (exact.next up unbroken good) = behind_next (behind up) unbroken

  judged : {n : ℕ} {s : S} {line rest : List ℕ} → LineAt judge start text n s line rest → Line n text line (split LF rest)
  judged {line = line} {rest = rest} at =
      let b = behind at.above in
      line_behind b.above line (split LF rest) (b.pieces ∙ ap (λ (ps : List (List ℕ)). b.above ++ ps) (line_piece at.unbroken rest)) b.number

  -- The line that a reader judges under a number is the text's line of that number.
  pub line_judged : {n : ℕ} {s : S} {line rest : List ℕ} → LineAt judge start text n s line rest → (line_at n text ≡ line) × HasLine n text
  line_judged {rest = rest} at =
      let l = judged at in
      (l.is, record { from_one = l.from_one; within = omega (arith, l.pieces); filled = λ last. absurd (omega (arith, l.pieces, some_piece rest)) })

  -- Where no LF is left, what is left is the line of that number, or the number is one past the last line.
  pub line_left : {n : ℕ} {s : S} {tail : List ℕ} → Above judge start text n s tail → Unbroken tail → HasLine n text ⊎ PastLast n text
  line_left {n} {tail = tail} up unbroken =
      let b = behind up in
      let l = line_behind b.above tail [] (b.pieces ∙ ap (λ (ps : List (List ℕ)). b.above ++ ps) (one_piece unbroken)) b.number in
      let long : length (line_at n text) ≡ length tail = ap length l.is in
      go l long (ℕ_discrete (length tail) 0)
    where
      go : Line n text tail [] → length (line_at n text) ≡ length tail → Dec (length tail ≡ 0) → HasLine n text ⊎ PastLast n text
      go l long (yes none) = inr (record { last = omega (arith, l.pieces); empty = long ∙ none })
      go l long (no some) = inl (record { from_one = l.from_one; within = omega (arith, l.pieces); filled = λ last. omega arith })

  -- What follows the LF of `end` begins with the line of the next number.
  pub line_after : {n : ℕ} {s : S} {line rest : List ℕ} {byte : ℕ} → LineAt judge start text n s line (byte ∷ rest) → HasLine (suc n) text
  line_after {n} {line = line} {rest = rest} {byte = byte} at =
      let b = behind_next (behind at.above) at.unbroken in
      let f = first-bytes byte rest in
      let l = line_behind b.above f.first f.below (b.pieces ∙ ap (λ (ps : List (List ℕ)). b.above ++ ps) f.is) b.number in
      let long : length (line_at (suc n) text) ≡ length f.first = ap length l.is in
      record { from_one = l.from_one; within = omega (arith, l.pieces); filled = λ last. omega (arith, f.filled (omega (arith, l.pieces))) }
