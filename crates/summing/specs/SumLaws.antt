-- The sum of typings in arrays is the model's sum, and the sum of what two typing texts say, laid out.
use Prim.Native.Nat.{ℕ, zero, suc, ◌-◌}
use Rattle.std.specs.Prelude.{false, ◌||◌, ◌≡◌, get_or}
use mathlib.Core.List.{List, [], ◌∷◌, ◌++◌}
use Rattle.std.proofs.Math.Path.{refl, sym, ap, ap₂}
use Rattle.std.proofs.Common.{◌∙◌, arith}
use Rattle.std.proofs.Math.ListN.{length, replicate}
use Rattle.roles.specs.Sets.{empty_set, union_of}
use Rattle.roles.specs.MemberLaws.{union_self}
use Rattle.model.specs.declared.Typing.{Typing as Table}
use Rattle.model.specs.Typing.{sum}
use Rattle.model.specs.Meaning.{meaning}
use Rattle.tables.specs.Padded.{padded}
use Rattle.typings.specs.TypingText.{Typed, table_of}
use Rattle.summing.specs.Sums.{paired, sum_of, sum_typed}

-- ---- two lists of the same length, element by element

module _ {ℓ} {A : Type ℓ} (f : A → A → A) where
  -- as many elements as either
  paired_length : (xs ys : List A) → length xs ≡ length ys → length (paired f xs ys) ≡ length xs
  unfolding paired
  paired_length [] ys even = refl
  paired_length (x ∷ xs) [] even = absurd (omega arith)
  paired_length (x ∷ xs) (y ∷ ys) even = ap suc (paired_length xs ys (omega arith))

  -- one part, then another
  paired_append : (xs ys more more' : List A) → length xs ≡ length ys → paired f (xs ++ more) (ys ++ more') ≡ paired f xs ys ++ paired f more more'
  unfolding paired
  paired_append [] [] more more' even = refl
  paired_append [] (y ∷ ys) more more' even = absurd (omega arith)
  paired_append (x ∷ xs) [] more more' even = absurd (omega arith)
  paired_append (x ∷ xs) (y ∷ ys) more more' even = ap (λ (l : List A). f x y ∷ l) (paired_append xs ys more more' (omega arith))

  -- a filling that is its own sum
  module _ (filling : A) (own : f filling filling ≡ filling) where
    -- each element is that of both, past the lists too
    paired_at : (xs ys : List A) → length xs ≡ length ys → (i : ℕ) → get_or (paired f xs ys) i filling ≡ f (get_or xs i filling) (get_or ys i filling)
    unfolding paired
    paired_at [] [] even i = sym own
    paired_at [] (y ∷ ys) even i = absurd (omega arith)
    paired_at (x ∷ xs) [] even i = absurd (omega arith)
    paired_at (x ∷ xs) (y ∷ ys) even zero = refl
    paired_at (x ∷ xs) (y ∷ ys) even (suc i) = paired_at xs ys (omega arith) i

    -- two fillings
    paired_filling : (n : ℕ) → paired f (replicate n filling) (replicate n filling) ≡ replicate n filling
    unfolding paired
    paired_filling zero = refl
    paired_filling (suc n) = ap₂ ◌∷◌ own (paired_filling n)

    -- two arrays that lists are laid out in
    paired_padded : (size : ℕ) (xs ys : List A) → length xs ≡ length ys → padded size filling (paired f xs ys) ≡ paired f (padded size filling xs) (padded size filling ys)
    unfolding padded
    paired_padded size xs ys even =
        ap (λ (l : List A). paired f xs ys ++ l) (ap (λ (k : ℕ). replicate (size - k) filling) (paired_length xs ys even) ∙ sym (paired_filling (size - length xs)))
        ∙ ap (λ (k : ℕ). paired f xs ys ++ paired f (replicate (size - length xs) filling) (replicate (size - k) filling)) even
        ∙ sym (paired_append xs ys (replicate (size - length xs) filling) (replicate (size - length ys) filling) even)

-- ---- the model's sum

-- The arrays of a typing have an element for each of 128 roles.
pub record Full (t : Table) : Type 0 where
  pub labels : length t.labels ≡ 128
  pub plus : length t.plus ≡ 128
  pub minus : length t.minus ≡ 128

-- The sum of two typings in arrays means the sum of what they mean.
pub sum-meaning : {t u : Table} → Full t → Full u → meaning (sum_of t u) ≡ sum (meaning t) (meaning u)
unfolding meaning sum_of sum
sum-meaning {t} {u} one two = λ i. record {
  label = λ role. paired_at ◌||◌ false refl t.labels u.labels (one.labels ∙ sym two.labels) role i;
  plus = λ role. paired_at union_of empty_set (union_self empty_set) t.plus u.plus (one.plus ∙ sym two.plus) role i;
  minus = λ role. paired_at union_of empty_set (union_self empty_set) t.minus u.minus (one.minus ∙ sym two.minus) role i;
}

-- ---- the sum of what two typing texts say

-- Both have as many rows.
pub record Even (t u : Typed) : Type 0 where
  pub labels : length t.labels ≡ length u.labels
  pub plus : length t.plus ≡ length u.plus
  pub minus : length t.minus ≡ length u.minus

-- Laid out, it is the sum of the two laid out.
pub table_sum : {t u : Typed} → Even t u → table_of (sum_typed t u) ≡ sum_of (table_of t) (table_of u)
unfolding table_of sum_typed sum_of
table_sum {t} {u} even = λ i. record {
  labels = paired_padded ◌||◌ false refl 128 t.labels u.labels even.labels i;
  plus = paired_padded union_of empty_set (union_self empty_set) 128 t.plus u.plus even.plus i;
  minus = paired_padded union_of empty_set (union_self empty_set) 128 t.minus u.minus even.minus i;
}
