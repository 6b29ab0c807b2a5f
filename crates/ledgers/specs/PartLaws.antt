-- The rows of a part: how many there are, the row at a place, what a store into the part or beside it does.
use Prim.Native.Nat.{ℕ, zero, suc, ◌+◌, ◌*◌, ◌≤◌, ◌<◌}
use Rattle.std.specs.Prelude.{Bool, true, false, ◌⊎◌, ◌≢◌, ◌≡◌, eqb, length, get_or, set}
use mathlib.Core.List.{List, [], ◌∷◌, ◌++◌}
use Rattle.std.proofs.Common.{inl, inr, ⊎_elim, sym, ◌∙◌, eqb-true, length-set, ext_get_or, get_or-set_same, get_or-set_other, mul-suc, mul-le-mul_left, add-zero, add-one}
use Rattle.std.proofs.Math.Path.{refl, ap, ap₂}
use Rattle.std.proofs.lemmas.Bool.{eqb-false}
use Rattle.std.proofs.lemmas.List.Edits.{sets}
use Rattle.std.proofs.Math.Decide.{dec_lt}
use native.Mathlib.Omega.{arith}
use Rattle.ledgers.specs.Parts.{Rows, Part, row_at, stored, rows_from, rows_in}

-- ---- a run of stores

-- a word before it or past it stays
pub sets_beside : (words : List ℕ) (at : ℕ) (row : List ℕ) (k : ℕ) → (k < at) ⊎ (at + length row ≤ k) → get_or (sets words at row) k 0 ≡ get_or words k 0
sets_beside words at [] k apart = refl
sets_beside words at (value ∷ row) k (inl before) =
    sets_beside (set words at value) (suc at) row k (inl (omega arith)) ∙ get_or-set_other words at k value 0 (omega arith)
sets_beside words at (value ∷ row) k (inr past) =
    sets_beside (set words at value) (suc at) row k (inr (omega arith)) ∙ get_or-set_other words at k value 0 (omega arith)

-- a word of it is stored
pub sets_at : (words : List ℕ) (at : ℕ) (row : List ℕ) (j : ℕ) {k : ℕ} → k ≡ at + j → j < length row → at + length row ≤ length words → get_or (sets words at row) k 0 ≡ get_or row j 0
sets_at words at [] j is inside fits = absurd (omega arith)
sets_at words at (value ∷ row) zero {k} is inside fits =
    ap (λ (i : ℕ). get_or (sets (set words at value) (suc at) row) i 0) (is ∙ add-zero at)
    ∙ sets_beside (set words at value) (suc at) row at (inl (omega arith)) ∙ get_or-set_same words at value 0 (omega arith)
sets_at words at (value ∷ row) (suc j) is inside fits =
    sets_at (set words at value) (suc at) row j (omega arith) (omega arith) (omega (arith, length-set words at value))

-- ---- parts

-- Rows are as wide as they say, a row looks at its own words alone, and a row that is stored says what it was made of.
pub record Faithful {A : Type 0} (rows : Rows A) : Type 0 where
  pub wide : (a : A) → length (rows.row a) ≡ rows.width
  pub alone : (one two : List ℕ) (at : ℕ) → ((k : ℕ) → at ≤ k → k < at + rows.width → get_or one k 0 ≡ get_or two k 0) → rows.says one at ≡ rows.says two at
  pub back : (words : List ℕ) (at : ℕ) (a : A) → at + rows.width ≤ length words → rows.says (sets words at (rows.row a)) at ≡ a

module _ {A : Type 0} (part : Part A) where
  -- rows do not overlap: one below a place ends where the place's row begins, or before
  row_after : (other place : ℕ) → other < place → part.rows.width * other + part.rows.width ≤ part.rows.width * place
  row_after other place below = omega (arith, mul-suc part.rows.width other, mul-le-mul_left part.rows.width below)

  from_length : (words : List ℕ) (place count : ℕ) → length (rows_from part words place count) ≡ count
  unfolding rows_from
  from_length words place zero = refl
  from_length words place (suc count) = ap suc (from_length words (suc place) count)

  -- there are as many rows as are asked for
  pub rows_length : (words : List ℕ) (count : ℕ) → length (rows_in part words count) ≡ count
  unfolding rows_in
  rows_length words count = from_length words 0 count

  from_at : (words : List ℕ) (place count k : ℕ) (past : A) → k < count → get_or (rows_from part words place count) k past ≡ row_at part words (place + k)
  unfolding rows_from
  from_at words place zero k past inside = absurd (omega arith)
  from_at words place (suc count) zero past inside = ap (row_at part words) (sym (add-zero place))
  from_at words place (suc count) (suc k) past inside =
      from_at words (suc place) count k past (omega arith) ∙ ap (row_at part words) (let e : suc place + k ≡ place + suc k = omega arith in e)

  -- the row at a place
  pub rows_at : (words : List ℕ) (count k : ℕ) (past : A) → k < count → get_or (rows_in part words count) k past ≡ row_at part words k
  unfolding rows_in
  rows_at words count k past inside = from_at words 0 count k past inside ∙ ap (row_at part words) (let e : 0 + k ≡ k = omega arith in e)

  from_more : (words : List ℕ) (place count : ℕ) → rows_from part words place (suc count) ≡ rows_from part words place count ++ (row_at part words (place + count) ∷ [])
  unfolding rows_from
  from_more words place zero = ap (λ (k : ℕ). row_at part words k ∷ []) (sym (add-zero place))
  from_more words place (suc count) =
      ap (λ (l : List A). row_at part words place ∷ l) (from_more words (suc place) count ∙ ap (λ (k : ℕ). rows_from part words (suc place) count ++ (row_at part words k ∷ [])) (let e : suc place + count ≡ place + suc count = omega arith in e))

  -- rows that say the same, one by one
  rows_same : (one two : List ℕ) (count : ℕ) → ((k : ℕ) → k < count → row_at part one k ≡ row_at part two k) → rows_in part one count ≡ rows_in part two count
  unfolding rows_in rows_from
  rows_same one two count same = go 0 count (λ k low high. same k (omega arith))
    where
      go : (place left : ℕ) → ((k : ℕ) → place ≤ k → k < place + left → row_at part one k ≡ row_at part two k) → rows_from part one place left ≡ rows_from part two place left
      go place zero each = refl
      go place (suc left) each = ap₂ ◌∷◌ (each place (omega arith) (omega arith)) (go (suc place) left (λ k low high. each k (omega arith) (omega arith)))

  module _ (faithful : Faithful part.rows) where
    -- a run of stores beside the part changes none of its rows
    pub rows_beside : (words : List ℕ) (at : ℕ) (row : List ℕ) (count : ℕ) → (at + length row ≤ part.from) ⊎ (part.from + part.rows.width * count ≤ at) → rows_in part (sets words at row) count ≡ rows_in part words count
    rows_beside words at row count apart =
        rows_same (sets words at row) words count (λ k inside. faithful.alone (sets words at row) words (part.from + part.rows.width * k) (λ i low high. sets_beside words at row i (⊎_elim (λ before. inr (omega arith)) (λ past. inl (omega (arith, row_after k count inside))) apart)))

    module _ (words : List ℕ) (place : ℕ) (a : A) where
      row_other : (k : ℕ) → k ≢ place → row_at part (stored part words place a) k ≡ row_at part words k
      row_other k differs = faithful.alone (stored part words place a) words (part.from + part.rows.width * k) (λ i low high. sets_beside words (part.from + part.rows.width * place) (part.rows.row a) i (side i low high (dec_lt k place)))
        where
          side : (i : ℕ) → part.from + part.rows.width * k ≤ i → i < part.from + part.rows.width * k + part.rows.width → Dec (k < place) → (i < part.from + part.rows.width * place) ⊎ (part.from + part.rows.width * place + length (part.rows.row a) ≤ i)
          side i low high (yes below) = inl (omega (arith, row_after k place below))
          side i low high (no above) = inr (omega (arith, row_after place k (omega arith), faithful.wide a))

      module _ (fits : part.from + part.rows.width * place + part.rows.width ≤ length words) where
        row_own : row_at part (stored part words place a) place ≡ a
        row_own = faithful.back words (part.from + part.rows.width * place) a fits

        -- a row stored in the place of another says what it was made of, and the other rows stay
        pub rows_changed : (count : ℕ) → place < count → rows_in part (stored part words place a) count ≡ set (rows_in part words count) place a
        rows_changed count inside =
            ext_get_or a (rows_in part (stored part words place a) count) (set (rows_in part words count) place a)
            (rows_length (stored part words place a) count ∙ sym (length-set (rows_in part words count) place a ∙ rows_length words count))
            (λ k here. go k (omega (arith, rows_length (stored part words place a) count)) (eqb k place) refl)
          where
            go : (k : ℕ) → k < count → (b : Bool) → eqb k place ≡ b → get_or (rows_in part (stored part words place a) count) k a ≡ get_or (set (rows_in part words count) place a) k a
            go k here true e =
                let same : k ≡ place = eqb-true k place e in
                ap (λ (i : ℕ). get_or (rows_in part (stored part words place a) count) i a) same ∙ rows_at (stored part words place a) count place a inside ∙ row_own
                ∙ sym (ap (λ (i : ℕ). get_or (set (rows_in part words count) place a) i a) same ∙ get_or-set_same (rows_in part words count) place a a (omega (arith, rows_length words count)))
            go k here false e =
                let differs : k ≢ place = eqb-false k place e in
                rows_at (stored part words place a) count k a here ∙ row_other k differs ∙ sym (rows_at words count k a here)
                ∙ sym (get_or-set_other (rows_in part words count) place k a a differs)

        -- a row stored past the others is one more
        pub rows_more : rows_in part (stored part words place a) (place + 1) ≡ rows_in part words place ++ (a ∷ [])
        unfolding rows_in
        rows_more =
            ap (rows_in part (stored part words place a)) (add-one place) ∙ from_more (stored part words place a) 0 place
            ∙ ap₂ (λ (l : List A) (last : A). l ++ (last ∷ [])) (rows_same (stored part words place a) words place (λ k below. row_other k (omega arith))) (ap (row_at part (stored part words place a)) (let e : 0 + place ≡ place = omega arith in e) ∙ row_own)
