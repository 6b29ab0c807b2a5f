-- Lists laid out in arrays: one element more.
use Rattle.std.specs.Prelude.{ℕ, suc, ◌+◌, ◌-◌, ◌<◌, List, [], ◌∷◌, ◌++◌, ◌≡◌, length, set, replicate}
use Rattle.std.proofs.Common.{append_assoc, sym, ap, ap₂, ◌∙◌, length-append, add-zero, zero-add, suc-add, arith}
use Rattle.tables.specs.Padded.{padded}

-- a store behind a list
set_behind {ℓ} : {A : Type ℓ} (xs ys : List A) (i : ℕ) (a : A) → set (xs ++ ys) (length xs + i) a ≡ xs ++ set ys i a
set_behind [] ys i a = rw (zero-add i)
set_behind (x ∷ xs) ys i a = rw (suc-add (length xs) i) (ap (λ (l : List _). x ∷ l) (set_behind xs ys i a))

-- the next element of an array that is laid out
pub store_next {ℓ} : {A : Type ℓ} (size : ℕ) (filling : A) (xs : List A) (a : A) → length xs < size → set (padded size filling xs) (length xs) a ≡ padded size filling (xs ++ (a ∷ []))
unfolding padded
store_next size filling xs a room =
    let left : size - length xs ≡ suc (size - length (xs ++ (a ∷ []))) = omega (arith, length-append xs (a ∷ [])) in
    ap₂ (λ (k i : ℕ). set (xs ++ replicate k filling) i a) left (sym (add-zero (length xs)))
    ∙ set_behind xs (filling ∷ replicate (size - length (xs ++ (a ∷ []))) filling) 0 a
    ∙ sym (append_assoc xs (a ∷ []) (replicate (size - length (xs ++ (a ∷ []))) filling))
