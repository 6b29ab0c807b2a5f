-- What holds between two roles while a sum is made: each array is the sum as far as it is made, and the first typing's past it.
use Prim.Native.Nat.{ℕ, zero, suc, ◌+◌, ◌≤◌, ◌<◌}
use Rattle.std.specs.Prelude.{Bool, ◌≡◌, length, get_or, set}
use Rattle.std.proofs.Math.Bool.{◌||◌}
use mathlib.Core.List.{List, [], ◌∷◌}
use Rattle.std.proofs.Math.Path.{refl, sym, ap}
use Rattle.std.proofs.Common.{◌∙◌, add-one, arith}
use Rattle.roles.specs.declared.RoleSet.{RoleSet}
use Rattle.roles.specs.Sets.{union_of}
use Rattle.model.specs.declared.Typing.{Typing as Table}
use Rattle.summing.specs.Sums.{paired, sum_of}
use Rattle.summing.specs.SumLaws.{Full}

module _ {A : Type 0} (f : A → A → A) where
  -- the sum of so many first elements, then the first list
  unfoldable pub partly : ℕ → List A → List A → List A
  partly zero xs ys = xs
  partly (suc n) [] ys = []
  partly (suc n) (x ∷ xs) [] = x ∷ xs
  partly (suc n) (x ∷ xs) (y ∷ ys) = f x y ∷ partly n xs ys

  -- one element more
  partly_next : (xs ys : List A) (n : ℕ) (past : A) → n < length xs → length xs ≡ length ys → set (partly n xs ys) n (f (get_or (partly n xs ys) n past) (get_or ys n past)) ≡ partly (suc n) xs ys
  unfolding partly
  partly_next [] ys n past here even = absurd (omega arith)
  partly_next (x ∷ xs) [] n past here even = absurd (omega arith)
  partly_next (x ∷ xs) (y ∷ ys) zero past here even = refl
  partly_next (x ∷ xs) (y ∷ ys) (suc n) past here even = ap (λ (l : List A). f x y ∷ l) (partly_next xs ys n past (omega arith) (omega arith))

  -- all of them
  partly_all : (xs ys : List A) (n : ℕ) → length xs ≤ n → length xs ≡ length ys → partly n xs ys ≡ paired f xs ys
  unfolding partly paired
  partly_all [] ys zero here even = refl
  partly_all [] ys (suc n) here even = refl
  partly_all (x ∷ xs) ys zero here even = absurd (omega arith)
  partly_all (x ∷ xs) [] (suc n) here even = absurd (omega arith)
  partly_all (x ∷ xs) (y ∷ ys) (suc n) here even = ap (λ (l : List A). f x y ∷ l) (partly_all xs ys n (omega arith) (omega arith))

-- The sum is made for the roles below a number.
pub record Summed (t u s : Table) (role : ℕ) : Type 0 where
  pub one : Full t
  pub two : Full u
  pub labels : s.labels ≡ partly ◌||◌ role t.labels u.labels
  pub plus : s.plus ≡ partly union_of role t.plus u.plus
  pub minus : s.minus ≡ partly union_of role t.minus u.minus

-- before the first role it is the first typing
pub summed_start : {t u : Table} → Full t → Full u → Summed t u t 0
unfolding partly
summed_start one two = record { one = one; two = two; labels = refl; plus = refl; minus = refl }

module _ {t u s : Table} {role : ℕ} (so_far : Summed t u s role) where
  -- one array with the element of one role more
  next : {A : Type 0} (f : A → A → A) (xs ys : List A) {zs : List A} (past : A) {a : A} → role < 128 → length xs ≡ 128 → length ys ≡ 128
      → zs ≡ partly f role xs ys → a ≡ f (get_or zs role past) (get_or ys role past) → set zs role a ≡ partly f (role + 1) xs ys
  next f xs ys {zs} past here one two is element =
      ap (set zs role) element ∙ ap (λ (l : List _). set l role (f (get_or l role past) (get_or ys role past))) is ∙ partly_next f xs ys role past (omega arith) (one ∙ sym two) ∙ ap (λ (k : ℕ). partly f k xs ys) (sym (add-one role))

  -- the three arrays with one role more
  pub summed_next : role < 128 → (low : Bool) (none : RoleSet) {plus minus : RoleSet} → plus ≡ union_of (get_or s.plus role none) (get_or u.plus role none) → minus ≡ union_of (get_or s.minus role none) (get_or u.minus role none)
      → Summed t u (record { labels = set s.labels role (get_or s.labels role low || get_or u.labels role low); plus = set s.plus role plus; minus = set s.minus role minus }) (role + 1)
  summed_next here low none plus minus = record {
    one = so_far.one;
    two = so_far.two;
    labels = next ◌||◌ t.labels u.labels low here so_far.one.labels so_far.two.labels so_far.labels refl;
    plus = next union_of t.plus u.plus none here so_far.one.plus so_far.two.plus so_far.plus plus;
    minus = next union_of t.minus u.minus none here so_far.one.minus so_far.two.minus so_far.minus minus;
  }

  -- after the last role it is the sum
  pub summed_end : 128 ≤ role → s ≡ sum_of t u
  unfolding sum_of
  summed_end past = λ i. record {
    labels = (so_far.labels ∙ partly_all ◌||◌ t.labels u.labels role (omega (arith, so_far.one.labels)) (so_far.one.labels ∙ sym so_far.two.labels)) i;
    plus = (so_far.plus ∙ partly_all union_of t.plus u.plus role (omega (arith, so_far.one.plus)) (so_far.one.plus ∙ sym so_far.two.plus)) i;
    minus = (so_far.minus ∙ partly_all union_of t.minus u.minus role (omega (arith, so_far.one.minus)) (so_far.one.minus ∙ sym so_far.two.minus)) i;
  }
