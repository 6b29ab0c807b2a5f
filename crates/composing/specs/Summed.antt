-- The sum of two typings that are read over a policy's roles: it fits them, means the model's sum, and its text reads back as it.
use Prim.Native.Nat.{ℕ, suc, ◌-◌, ◌≤◌}
use Rattle.std.specs.Prelude.{false, ◌≡◌, refl, length, replicate}
use Rattle.std.proofs.Math.Bool.{◌||◌}
use mathlib.Core.List.Memᴰ.{head as here}
use mathlib.Core.List.Memᴰ.{tail as later}
use mathlib.Core.List.{List, [], ◌∷◌, Memᴰ as Listed}
use Rattle.std.proofs.Common.{⊎_elim, sym, ap, subst, ◌∙◌, length-append, arith}
use Rattle.std.proofs.Math.Path.{subst⁻¹}
use Rattle.std.proofs.lemmas.List.{length-replicate}
use Rattle.roles.specs.declared.RoleSet.{RoleSet}
use Rattle.roles.specs.Sets.{empty_set, union_of}
use Rattle.roles.specs.MemberLaws.{union_cases, union_sized}
use Rattle.model.specs.declared.Typing.{Typing as Table}
use Rattle.model.specs.Typing.{sum}
use Rattle.model.specs.Meaning.{meaning}
use Rattle.tables.specs.declared.Name.{Name}
use Rattle.walking.specs.Texts.{read}
use Rattle.tables.specs.Padded.{padded}
use Rattle.typings.specs.TypingText.{Typed, read_typing, table_of}
use Rattle.spelling.specs.TypingText.{typing_text}
use Rattle.tables.specs.Named.{Named}
use Rattle.rereading.specs.Fits.{Fits}
use Rattle.fields.specs.Roles.{Inside}
use Rattle.rereading.specs.Back.{reads_back}
use Rattle.summing.specs.Sums.{paired, sum_of, sum_typed}
use Rattle.summing.specs.SumLaws.{Full, sum-meaning, Even, table_sum}

-- ---- two columns of as many elements, element by element

module _ {A : Type 0} (f : A → A → A) (P : A → Type 0) (keeps : (x y : A) → P x → P y → P (f x y)) where
  -- the sum has as many, and keeps what holds of each
  column : (xs ys : List A) → length xs ≡ length ys → ((x : A) → Listed x xs → P x) → ((y : A) → Listed y ys → P y)
      → (length (paired f xs ys) ≡ length xs) × ((z : A) → Listed z (paired f xs ys) → P z)
  unfolding paired
  column [] ys even each each' = (refl, each)
  column (x ∷ xs) [] even each each' = absurd (omega arith)
  column (x ∷ xs) (y ∷ ys) even each each' =
      let rest = column xs ys (omega arith) (λ a m. each a (later m)) (λ a m. each' a (later m)) in
      (ap suc rest.0, go (keeps x y (each x (here refl)) (each' y (here refl))) rest.1)
    where
      go : P (f x y) → ((z : A) → Listed z (paired f xs ys) → P z) → (z : A) → Listed z (f x y ∷ paired f xs ys) → P z
      go new old z (here e) = subst⁻¹ P e new
      go new old z (later m) = old z m

-- ---- what fits

-- the union of two sets inside the roles
union_inside : (roles : ℕ) (s t : RoleSet) → Inside roles s → Inside roles t → Inside roles (union_of s t)
union_inside roles s t one two = record {
  sized = union_sized one.sized two.sized;
  below = λ {role} found. ⊎_elim one.below two.below (union_cases s t found);
}

-- a list laid out fills its array
padded-full : {A : Type 0} (filling : A) (xs : List A) → length xs ≤ 128 → length (padded 128 filling xs) ≡ 128
unfolding padded
padded-full {A} filling xs short = omega (arith, length-append xs (replicate (128 - length xs) filling), length-replicate {A = A} (128 - length xs) filling)

-- so a typing that fits fills its arrays
full : {names : List Name} {t : Typed} → Fits names t → length names ≤ 128 → Full (table_of t)
unfolding table_of
full {names} {t} fits few = record {
  labels = padded-full false t.labels (omega (arith, fits.labels));
  plus = padded-full empty_set t.plus (omega (arith, fits.plus));
  minus = padded-full empty_set t.minus (omega (arith, fits.minus));
}

module _ {names : List Name} {t u : Typed} (one : Fits names t) (two : Fits names u) where
  -- both have as many rows
  even : Even t u
  even = record { labels = one.labels ∙ sym two.labels; plus = one.plus ∙ sym two.plus; minus = one.minus ∙ sym two.minus }

  -- the sum fits as both do
  sum_fits : Fits names (sum_typed t u)
  unfolding sum_typed
  sum_fits =
      let labels = column ◌||◌ (λ _. Unit {0}) (λ x y _ _. tt) t.labels u.labels even.labels (λ x _. tt) (λ y _. tt) in
      let plus = column union_of (Inside (length names)) (union_inside (length names)) t.plus u.plus even.plus one.plus_inside two.plus_inside in
      let minus = column union_of (Inside (length names)) (union_inside (length names)) t.minus u.minus even.minus one.minus_inside two.minus_inside in
      record {
        stage = one.stage;
        labels = labels.0 ∙ one.labels;
        plus = plus.0 ∙ one.plus;
        minus = minus.0 ∙ one.minus;
        plus_inside = plus.1;
        minus_inside = minus.1;
      }

  -- The arrays of the sum are the sum of the arrays.
  pub sum_laid : table_of (sum_typed t u) ≡ sum_of (table_of t) (table_of u)
  sum_laid = table_sum even

  -- The text of the sum reads back as the sum.
  pub sum_back : Named names → length (typing_text names (sum_of (table_of t) (table_of u))) ≤ 32768 → read_typing names (typing_text names (sum_of (table_of t) (table_of u))) ≡ read (sum_typed t u)
  sum_back all = subst (λ (x : Table). length (typing_text names x) ≤ 32768 → read_typing names (typing_text names x) ≡ read (sum_typed t u)) sum_laid (reads_back all sum_fits)

  -- The sum means the model's sum.
  pub sum_means : length names ≤ 128 → meaning (sum_of (table_of t) (table_of u)) ≡ sum (meaning (table_of t)) (meaning (table_of u))
  sum_means few = sum-meaning (full one few) (full two few)
