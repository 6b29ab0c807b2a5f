-- The pieces of bytes, from the places that a search finds.
use Rattle.std.specs.Prelude.{ℕ, zero, suc, ◌+◌, ◌-◌, ◌<◌, ◌≤◌, Bool, true, false, cond, ◌&&◌, ◌||◌, List, [], ◌∷◌, ◌++◌, ◌≡◌, refl, eqb, length, get_or, take, drop}
use Rattle.std.proofs.Common.{zero-le, append_assoc, append-nil, sym, ap, ap₂, ◌∙◌, eqb-true, eq-eqb, length-take, length-drop, take_all, drop-drop, get_or-drop, arith}
use Rattle.std.proofs.lemmas.Bool.{false≢true}
use Rattle.std.proofs.Math.Bool.{and-eq-true_iff}
use Rattle.std.proofs.Math.Decide.{dec_lt}
use Rattle.text.specs.Index.{index_of, index_after}
use Rattle.text.specs.Pieces.{Sought, onto, part, parted, same_bytes, split}

-- ---- cutting at the first separator

-- no separator: one piece
pub split_none : (mark : ℕ) (s : List ℕ) → length s ≤ index_of mark s → split mark s ≡ s ∷ []
unfolding split index_of index_after onto
split_none mark [] h = refl
split_none mark (byte ∷ rest) h = go (eqb byte mark) h (split_none mark rest)
  where
    go : (t : Bool) → suc (length rest) ≤ index_after t (index_of mark rest) → (length rest ≤ index_of mark rest → split mark rest ≡ rest ∷ [])
        → cond t ([] ∷ split mark rest) (onto byte (split mark rest)) ≡ (byte ∷ rest) ∷ []
    go true bad below = absurd (omega arith)
    go false more below = ap (onto byte) (below (omega arith))

-- a separator: the bytes before the first one, then the pieces of what follows it
pub split_some : (mark : ℕ) (s : List ℕ) → index_of mark s < length s → split mark s ≡ take (index_of mark s) s ∷ split mark (drop (suc (index_of mark s)) s)
unfolding split index_of index_after onto
split_some mark [] h = absurd (omega arith)
split_some mark (byte ∷ rest) h = go (eqb byte mark) h (split_some mark rest)
  where
    go : (t : Bool) → index_after t (index_of mark rest) < suc (length rest)
        → (index_of mark rest < length rest → split mark rest ≡ take (index_of mark rest) rest ∷ split mark (drop (suc (index_of mark rest)) rest))
        → cond t ([] ∷ split mark rest) (onto byte (split mark rest))
        ≡ take (index_after t (index_of mark rest)) (byte ∷ rest) ∷ split mark (drop (suc (index_after t (index_of mark rest))) (byte ∷ rest))
    go true less below = refl
    go false less below = ap (onto byte) (below (omega arith))

-- ---- what the test of two byte strings says

pub same_equal : (s t : List ℕ) → same_bytes s t ≡ true → s ≡ t
unfolding same_bytes
same_equal [] [] h = refl
same_equal [] (b ∷ t) h = absurd (false≢true h)
same_equal (a ∷ s) [] h = absurd (false≢true h)
same_equal (a ∷ s) (b ∷ t) h =
    let parts = (and-eq-true_iff (eqb a b) (same_bytes s t)).0 h in
    ap₂ ◌∷◌ (eqb-true a b parts.0) (same_equal s t parts.1)

pub equal_same : (s : List ℕ) → same_bytes s s ≡ true
unfolding same_bytes
equal_same [] = refl
equal_same (a ∷ s) = ap₂ ◌&&◌ (eq-eqb a a refl) (equal_same s)

-- an answer that is true just where two byte strings are equal is the test
pub same_answer : (s t : List ℕ) (answer : Bool) → (answer ≡ true → s ≡ t) → (s ≡ t → answer ≡ true) → answer ≡ same_bytes s t
same_answer s t true only if = sym (ap (same_bytes s) (sym (only refl)) ∙ equal_same s)
same_answer s t false only if = go (same_bytes s t) refl
  where
    go : (b : Bool) → same_bytes s t ≡ b → false ≡ same_bytes s t
    go true e = if (same_equal s t e) ∙ sym e
    go false e = sym e

-- a part that goes to the end is what is left from its start on
pub part_rest {ℓ} : {A : Type ℓ} (at : ℕ) (s : List A) → take (length s - at) (drop at s) ≡ drop at s
part_rest at s = take_all (length s - at) (drop at s) (omega (arith, length-drop at s))

-- ---- the pieces of what is left, from the place that a search finds

-- none is found: what is left is one piece
pub sought_none : (s : List ℕ) (from mark place : ℕ) → from ≤ length s → Sought s from mark place → length s ≤ place → split mark (drop from s) ≡ drop from s ∷ []
sought_none s from mark place start sought end = split_none mark (drop from s) (omega (arith, length-drop from s, sought.first))

-- one is found: the bytes up to it, then the pieces of what follows it
pub sought_some : (s : List ℕ) (from mark place : ℕ) → Sought s from mark place → place < length s
    → split mark (drop from s) ≡ take (place - from) (drop from s) ∷ split mark (drop (place + 1) s)
sought_some s from mark place sought here =
    let width : place - from ≡ index_of mark (drop from s) = omega (arith, sought.first) in
    let on : from + suc (index_of mark (drop from s)) ≡ place + 1 = omega (arith, sought.first) in
    split_some mark (drop from s) (omega (arith, length-drop from s, sought.first))
    ∙ ap₂ (λ (k : ℕ) (rest : List ℕ). take k (drop from s) ∷ split mark rest) (sym width) (drop-drop (suc (index_of mark (drop from s))) from s ∙ ap (λ (k : ℕ). drop k s) on)

-- the same where it is found at the end: the bytes up to there, and no more pieces
pub sought_last : (s : List ℕ) (from mark place : ℕ) → from ≤ length s → Sought s from mark place → place ≡ length s → split mark (drop from s) ≡ take (place - from) (drop from s) ∷ []
sought_last s from mark place start sought end =
    sought_none s from mark place start sought (omega arith) ∙ ap (λ (p : List ℕ). p ∷ []) (sym (ap (λ (k : ℕ). take (k - from) (drop from s)) end ∙ part_rest from s))

-- found or not: the bytes up to the place are the first piece
pub record Cut (s : List ℕ) (from mark place : ℕ) : Type 0 where
  pub rest : List (List ℕ)
  pub pieces : split mark (drop from s) ≡ take (place - from) (drop from s) ∷ rest

pub sought_cut : (s : List ℕ) (from mark place : ℕ) → from ≤ length s → Sought s from mark place → Cut s from mark place
sought_cut s from mark place start sought = go (dec_lt place (length s))
  where
    go : Dec (place < length s) → Cut s from mark place
    go (yes less) = record { rest = split mark (drop (place + 1) s); pieces = sought_some s from mark place sought less }
    go (no end) = record { rest = []; pieces = sought_last s from mark place start sought (omega (arith, sought.within)) }

-- ---- piece after piece

-- the pieces passed, and those of what is left
pub record Passed (mark : ℕ) (s : List ℕ) (done : List (List ℕ)) (from : ℕ) : Type 0 where
  pub pieces : split mark s ≡ done ++ split mark (drop from s)
  pub within : from ≤ length s

pub passed_none : (mark : ℕ) (s : List ℕ) → Passed mark s [] 0
passed_none mark s = record { pieces = refl; within = zero-le }

-- one more, and the last one
pub passed_next : (mark : ℕ) (s : List ℕ) (done : List (List ℕ)) (from place : ℕ) → Passed mark s done from → Sought s from mark place → place < length s
    → Passed mark s (done ++ (part s from place ∷ [])) (place + 1)
passed_next mark s done from place passed sought here = record {
  pieces = passed.pieces ∙ ap (λ (ps : List (List ℕ)). done ++ ps) (sought_some s from mark place sought here) ∙ sym (append_assoc done (part s from place ∷ []) (split mark (drop (place + 1) s)));
  within = omega arith;
}

pub passed_last : (mark : ℕ) (s : List ℕ) (done : List (List ℕ)) (from place : ℕ) → Passed mark s done from → Sought s from mark place → place ≡ length s
    → split mark s ≡ done ++ (part s from place ∷ [])
passed_last mark s done from place passed sought end = passed.pieces ∙ ap (λ (ps : List (List ℕ)). done ++ ps) (sought_last s from mark place passed.within sought end)

-- there is always a piece
pub split_piece : (mark : ℕ) (s : List ℕ) → (first : List ℕ) × (rest : List (List ℕ)) × (split mark s ≡ first ∷ rest)
unfolding split onto
split_piece mark [] = ([], [], refl)
split_piece mark (byte ∷ s) = go (eqb byte mark) (split mark s)
  where
    go : (t : Bool) (pieces : List (List ℕ)) → (first : List ℕ) × (rest : List (List ℕ)) × (cond t ([] ∷ pieces) (onto byte pieces) ≡ first ∷ rest)
    go true pieces = ([], pieces, refl)
    go false [] = (byte ∷ [], [], refl)
    go false (p ∷ pieces) = (byte ∷ p, pieces, refl)

-- ---- the pieces before a separator, and those after it

split_start : (mark : ℕ) (s : List ℕ) (n : ℕ) → n < length s → get_or s n 0 ≡ mark → split mark s ≡ split mark (take n s) ++ split mark (drop (suc n) s)
unfolding split onto
split_start mark [] n h is = absurd (omega arith)
split_start mark (byte ∷ rest) zero h is = rw (eq-eqb byte mark is)
split_start mark (byte ∷ rest) (suc n) h is = go (eqb byte mark) (split_piece mark (take n rest)) (split_start mark rest n (omega arith) is)
  where
    after : List (List ℕ)
    after = split mark (drop (suc n) rest)

    go : (t : Bool) → (first : List ℕ) × (others : List (List ℕ)) × (split mark (take n rest) ≡ first ∷ others) → split mark rest ≡ split mark (take n rest) ++ after
        → cond t ([] ∷ split mark rest) (onto byte (split mark rest)) ≡ cond t ([] ∷ split mark (take n rest)) (onto byte (split mark (take n rest))) ++ after
    go true piece below = ap (λ (ps : List (List ℕ)). [] ∷ ps) below
    go false (first, others, is) below = rw (below, is)

found_mark : (mark : ℕ) (s : List ℕ) → index_of mark s < length s → get_or s (index_of mark s) 0 ≡ mark
unfolding index_of index_after
found_mark mark [] h = absurd (omega arith)
found_mark mark (byte ∷ rest) h = go (eqb byte mark) refl h (found_mark mark rest)
  where
    go : (t : Bool) → eqb byte mark ≡ t → index_after t (index_of mark rest) < suc (length rest) → (index_of mark rest < length rest → get_or rest (index_of mark rest) 0 ≡ mark)
        → get_or (byte ∷ rest) (index_after t (index_of mark rest)) 0 ≡ mark
    go true e less below = eqb-true byte mark e
    go false e less below = below (omega arith)

-- found or not: the pieces up to the place are the first pieces of all
pub sought_start : (s : List ℕ) (from mark place : ℕ) → Sought s from mark place → (more : List (List ℕ)) × (split mark s ≡ split mark (take place s) ++ more)
sought_start s from mark place sought = go (dec_lt place (length s))
  where
    go : Dec (place < length s) → (more : List (List ℕ)) × (split mark s ≡ split mark (take place s) ++ more)
    go (yes less) =
        let here : get_or s place 0 ≡ mark = ap (λ (k : ℕ). get_or s k 0) sought.first ∙ sym (get_or-drop from s (index_of mark (drop from s)) 0) ∙ found_mark mark (drop from s) (omega (arith, length-drop from s, sought.first)) in
        (split mark (drop (suc place) s), split_start mark s place less here)
    go (no end) = ([], ap (split mark) (sym (take_all place s (omega arith))) ∙ sym (append-nil (split mark (take place s))))

-- a part is no longer than the whole
pub part_short : (s : List ℕ) (from to : ℕ) {most : ℕ} → length s ≤ most → length (part s from to) ≤ most
part_short s from to fits = omega (arith, length-take (to - from) (drop from s), length-drop from s)

-- ---- pieces put together

-- a byte in front of the first piece
parted-onto : (mark byte : ℕ) (pieces : List (List ℕ)) → parted mark (onto byte pieces) ≡ byte ∷ parted mark pieces
unfolding parted onto
parted-onto mark byte [] = refl
parted-onto mark byte (piece ∷ []) = refl
parted-onto mark byte (piece ∷ more ∷ pieces) = refl

-- Bytes are their pieces, parted.
pub split-parted : (mark : ℕ) (s : List ℕ) → s ≡ parted mark (split mark s)
unfolding split parted
split-parted mark [] = refl
split-parted mark (byte ∷ rest) = go (eqb byte mark) refl (split_piece mark rest) (split-parted mark rest)
  where
    go : (b : Bool) → eqb byte mark ≡ b → (piece : List ℕ) × (more : List (List ℕ)) × (split mark rest ≡ piece ∷ more) → rest ≡ parted mark (split mark rest)
        → byte ∷ rest ≡ parted mark (cond b ([] ∷ split mark rest) (onto byte (split mark rest)))
    go true e (piece, more, pieces) below = ap₂ ◌∷◌ (eqb-true byte mark e) (below ∙ ap (parted mark) pieces) ∙ ap (λ (l : List (List ℕ)). parted mark ([] ∷ l)) (sym pieces)
    go false e some below = ap (λ (l : List ℕ). byte ∷ l) below ∙ sym (parted-onto mark byte (split mark rest))

-- ---- two tests

-- neither holds
pub neither : (a b : Bool) → (a || b) ≡ false → (a ≡ false) × (b ≡ false)
neither true b e = absurd (false≢true (sym e))
neither false b e = (refl, e)
