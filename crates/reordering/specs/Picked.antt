-- Lists by places: what stands at the places below a number, and what stands at the places of a set's roles.
use Prim.Native.Nat.{ℕ, zero, suc, ◌+◌, ◌≤◌, ◌<◌}
use Rattle.std.proofs.Math.Bool.{Bool, true, false, cond}
use Rattle.std.specs.Prelude.{◌||◌, ◌≡◌}
use mathlib.Core.List.{List, [], ◌∷◌, ◌++◌, map}
use Rattle.std.proofs.Math.Path.{refl, ap, ap₂, subst}
use Rattle.std.proofs.Common.{sym, ◌∙◌, arith}
use borrow.Author.Tests.{eqb-true, eqb-false, eq-eqb, ne_eqb}
use Rattle.std.proofs.Math.Dec.{eqb}
use Rattle.roles.specs.declared.RoleSet.{RoleSet}
use Rattle.roles.specs.Sets.{empty_set, has_role, with_of}
use Rattle.roles.specs.MemberLaws.{has_empty, has_with}
use Rattle.reordering.specs.Alike.{Inserted}
use Rattle.reordering.specs.Orders.{inserted_join}
use Rattle.reordering.specs.OrdersMore.{into_second}

-- a role more in a set leaves the others as they were
with_others : (set : RoleSet) (role k : ℕ) → role < 128 → (k ≡ role → ⊥) → has_role (with_of set role) k ≡ has_role set k
with_others set role k below other = has_with set role k below ∙ ap (λ (b : Bool). has_role set k || b) (ne_eqb role k (λ e. other (sym e))) ∙ or_none (has_role set k)
  where
    or_none : (b : Bool) → (b || false) ≡ b
    or_none true = refl
    or_none false = refl

module _ {A : Type 0} where
  -- ---- the places below a number

  unfoldable pub gathered : (ℕ → List A) → ℕ → List A
  gathered f zero = []
  gathered f (suc count) = gathered f count ++ f count

  -- the same at each place
  pub gathered_same : (f g : ℕ → List A) (count : ℕ) → ((k : ℕ) → k < count → g k ≡ f k) → gathered g count ≡ gathered f count
  unfolding gathered
  gathered_same f g zero same = refl
  gathered_same f g (suc count) same = ap₂ ◌++◌ (gathered_same f g count (λ k below. same k (omega arith))) (same count (omega arith))

  -- one more at one place
  pub gathered_put : {x : A} (f g : ℕ → List A) (count at : ℕ) → at < count → ((k : ℕ) → (k ≡ at → ⊥) → g k ≡ f k) → Inserted x (f at) (g at) → Inserted x (gathered f count) (gathered g count)
  unfolding gathered
  gathered_put f g zero at below same one = absurd (omega arith)
  gathered_put {x} f g (suc count) at below same one = go (eqb count at) refl (λ earlier. gathered_put f g count at earlier same one)
    where
      go : (b : Bool) → eqb count at ≡ b → (at < count → Inserted x (gathered f count) (gathered g count)) → Inserted x (gathered f count ++ f count) (gathered g count ++ g count)
      go true e on =
          let is = eqb-true count at e in
          subst (λ (l : List A). Inserted x (gathered f count ++ f count) (l ++ g count)) (sym (gathered_same f g count (λ k to. same k (λ at-it. absurd (omega (arith, at-it, is, to))))))
          (into_second (gathered f count) (subst (λ (k : ℕ). Inserted x (f k) (g k)) (sym is) one))
      go false e on =
          let other = eqb-false count at e in
          subst (λ (l : List A). Inserted x (gathered f count ++ f count) (gathered g count ++ l)) (sym (same count other)) (inserted_join (f count) (on (earlier other)))
        where
          earlier : (count ≡ at → ⊥) → at < count
          earlier differ = omega (arith, below, differ)

  -- ---- the roles of a set

  -- from a place on, so many places
  unfoldable pub picked : (ℕ → A) → (place count : ℕ) → RoleSet → List A
  picked f place zero set = []
  picked f place (suc count) set = cond (has_role set place) (f place ∷ picked f (suc place) count set) (picked f (suc place) count set)

  -- none of no role
  pub picked_none : (f : ℕ → A) (place count : ℕ) → picked f place count empty_set ≡ []
  unfolding picked
  picked_none f place zero = refl
  picked_none f place (suc count) = ap (λ (b : Bool). cond b (f place ∷ picked f (suc place) count empty_set) (picked f (suc place) count empty_set)) (has_empty place) ∙ picked_none f (suc place) count

  -- the same where the set has the same roles
  picked_same : (f : ℕ → A) (place count : ℕ) (set other : RoleSet) → ((k : ℕ) → place ≤ k → has_role other k ≡ has_role set k) → picked f place count other ≡ picked f place count set
  unfolding picked
  picked_same f place zero set other same = refl
  picked_same f place (suc count) set other same =
      ap₂ (λ (b : Bool) (l : List A). cond b (f place ∷ l) l) (same place (omega arith)) (picked_same f (suc place) count set other (λ k from. same k (omega arith)))

  -- a role more, which is new to the set
  pub picked_put : (f : ℕ → A) (place count role : ℕ) (set : RoleSet) → place ≤ role → role < place + count → role < 128 → has_role set role ≡ false
      → Inserted (f role) (picked f place count set) (picked f place count (with_of set role))
  unfolding picked
  picked_put f place zero role set from to few new = absurd (omega arith)
  picked_put f place (suc count) role set from to few new = go (eqb place role) refl (λ past. picked_put f (suc place) count role set past (omega arith) few new)
    where
      more : ℕ → Bool → RoleSet → List A
      more at b of = cond b (f at ∷ picked f (suc place) count of) (picked f (suc place) count of)

      put_same : (b : Bool) → Inserted (f role) (picked f (suc place) count set) (picked f (suc place) count (with_of set role)) → Inserted (f role) (more place b set) (more place b (with_of set role))
      put_same true i = Inserted.there i
      put_same false i = i

      go : (b : Bool) → eqb place role ≡ b → (suc place ≤ role → Inserted (f role) (picked f (suc place) count set) (picked f (suc place) count (with_of set role)))
          → Inserted (f role) (more place (has_role set place) set) (more place (has_role (with_of set role) place) (with_of set role))
      go true e on =
          let is = eqb-true place role e in
          let old : has_role set place ≡ false = ap (has_role set) is ∙ new in
          let now : has_role (with_of set role) place ≡ true = has_with set role place few ∙ ap₂ ◌||◌ old (eq-eqb role place (sym is)) in
          let rest = picked_same f (suc place) count set (with_of set role) (λ k past. with_others set role k few (λ at-it. omega (arith, at-it, is, past))) in
          subst (λ (b : Bool). Inserted (f role) (more place b set) (more place (has_role (with_of set role) place) (with_of set role))) (sym old)
          (subst (λ (b : Bool). Inserted (f role) (picked f (suc place) count set) (more place b (with_of set role))) (sym now)
          (subst (λ (l : List A). Inserted (f role) (picked f (suc place) count set) (f place ∷ l)) (sym rest)
          (subst (λ (k : ℕ). Inserted (f role) (picked f (suc place) count set) (f k ∷ picked f (suc place) count set)) (sym is) Inserted.here)))
      go false e on =
          let other = eqb-false place role e in
          subst (λ (b : Bool). Inserted (f role) (more place (has_role set place) set) (more place b (with_of set role))) (sym (with_others set role place few other)) (put_same (has_role set place) (on (later other)))
        where
          later : (place ≡ role → ⊥) → suc place ≤ role
          later differ = omega (arith, from, differ)

-- what is made of each of them
pub picked_map : {A B : Type 0} (g : A → B) (f : ℕ → A) (place count : ℕ) (set : RoleSet) → map g (picked f place count set) ≡ picked (λ (r : ℕ). g (f r)) place count set
unfolding picked
picked_map g f place zero set = refl
picked_map {A} {B} g f place (suc count) set = go (has_role set place) (picked f (suc place) count set) (picked_map g f (suc place) count set)
  where
    go : (b : Bool) (some : List A) {made : List B} → map g some ≡ made → map g (cond b (f place ∷ some) some) ≡ cond b (g (f place) ∷ made) made
    go true some same = ap (λ (l : List B). g (f place) ∷ l) same
    go false some same = same
