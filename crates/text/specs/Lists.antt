-- What holds of every element of a list, with one element more or another in the place of one.
use Rattle.std.specs.Prelude.{ℕ, zero, suc, ◌<◌, refl, length, get_or, set}
use mathlib.Core.List.Memᴰ.{append_cases}
use mathlib.Core.List.Memᴰ.{cases_cons}
use mathlib.Core.List.Memᴰ.{eq_of_singleton as only}
use mathlib.Core.List.Memᴰ.{head as foremost}
use mathlib.Core.List.Memᴰ.{tail as further}
use mathlib.Core.List.{List, [], ◌∷◌, ◌++◌, Memᴰ as Listed}
use Rattle.std.proofs.Common.{⊎_elim, arith}
use Rattle.std.proofs.Math.Path.{subst⁻¹}

-- what holds of every element of a list and of one element more holds of every element of both together
pub each_more : {A : Type 0} (P : A → Type 0) (xs : List A) {x : A} → ((y : A) → Listed y xs → P y) → P x → (y : A) → Listed y (xs ++ (x ∷ [])) → P y
each_more P xs each new y m = ⊎_elim (each y) (λ last. subst⁻¹ P (only last) new) (append_cases xs m)

-- and of every element where one is stored in the place of another
pub each_set : {A : Type 0} (P : A → Type 0) (xs : List A) (place : ℕ) {x : A} → ((y : A) → Listed y xs → P y) → P x → (y : A) → Listed y (set xs place x) → P y
each_set P [] place each new y m = each y m
each_set P (first ∷ rest) zero each new y m = ⊎_elim (λ same. subst⁻¹ P same new) (λ later. each y (further later)) (cases_cons m)
each_set P (first ∷ rest) (suc place) each new y m =
    ⊎_elim (λ same. each y (foremost same)) (λ later. each_set P rest place (λ z old. each z (further old)) new y later) (cases_cons m)

-- and of what a look-up finds below the length
pub each_get : {A : Type 0} (P : A → Type 0) (xs : List A) (place : ℕ) (past : A) → ((y : A) → Listed y xs → P y) → place < length xs → P (get_or xs place past)
each_get P [] place past each inside = absurd (omega arith)
each_get P (first ∷ rest) zero past each inside = each first (foremost refl)
each_get P (first ∷ rest) (suc place) past each inside = each_get P rest place past (λ y m. each y (further m)) (omega arith)
