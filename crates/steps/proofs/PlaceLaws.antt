-- What stands at a place below the length is listed, and what is listed has such a place.
use Rattle.std.specs.Prelude.{ℕ, zero, suc, ◌<◌, ◌≡◌, refl, length, get_or}
use mathlib.Core.List.Memᴰ.{head as foremost}
use mathlib.Core.List.Memᴰ.{tail as further}
use mathlib.Core.List.{List, [], ◌∷◌, Memᴰ as Listed}
use Rattle.std.proofs.Common.{subst, arith}
use Rattle.steps.specs.Places.{At, here, there}

module _ {A : Type 0} where
  -- The place is below the length,
  pub at_inside : {a : A} {l : List A} {place : ℕ} → At a l place → place < length l
  at_inside here = omega arith
  at_inside (there at) = omega (arith, at_inside at)

  -- and a look-up finds the element there.
  pub at_stands : (d : A) {a : A} {l : List A} {place : ℕ} → At a l place → get_or l place d ≡ a
  at_stands d here = refl
  at_stands d (there at) = at_stands d at

  -- What a look-up below the length finds stands there.
  pub stands_at : (d : A) (l : List A) (place : ℕ) → place < length l → At (get_or l place d) l place
  stands_at d [] place inside = absurd (omega arith)
  stands_at d (a ∷ l) zero inside = here
  stands_at d (a ∷ l) (suc place) inside = there (stands_at d l place (omega arith))

  -- What stands at a place is listed,
  pub at_listed : {a : A} {l : List A} {place : ℕ} → At a l place → Listed a l
  at_listed here = foremost refl
  at_listed (there at) = further (at_listed at)

  -- and what is listed stands at some place.
  pub listed_at : {a : A} {l : List A} → Listed a l → (place : ℕ) × At a l place
  listed_at {a} (foremost {xs = l} e) = (0, subst (λ (x : A). At a (x ∷ l) 0) e here)
  listed_at (further m) = let (place, at) = listed_at m in (suc place, there at)
