-- Sums over places, and over the roles of a set.
use Rattle.std.specs.Prelude.{ℕ, zero, suc, ◌+◌, ◌≤◌, ◌<◌, Bool, true, false, cond, ◌||◌, ◌≡◌, refl, eqb}
use Rattle.std.proofs.Common.{sym, ap, ap₂, ◌∙◌, eqb-true, eq-eqb, ne_eqb, add-zero, arith}
use Rattle.std.proofs.lemmas.Bool.{eqb-false}
use Rattle.roles.specs.declared.RoleSet.{RoleSet}
use Rattle.roles.specs.Sets.{empty_set, has_role, with_of}
use Rattle.roles.specs.MemberLaws.{has_empty, has_with}

-- What so many places from a place on have together.
unfoldable pub sum_from : (place count : ℕ) → (ℕ → ℕ) → ℕ
sum_from place zero f = 0
sum_from place (suc count) f = f place + sum_from (suc place) count f

-- one place more at the end
pub sum_last : (place count : ℕ) (f : ℕ → ℕ) → sum_from place (suc count) f ≡ sum_from place count f + f (place + count)
unfolding sum_from
sum_last place zero f = omega (arith, ap f (add-zero place))
sum_last place (suc count) f =
    let on : suc place + count ≡ place + suc count = omega arith in
    omega (arith, sum_last (suc place) count f, ap f on)

-- the same at each place
pub sum_same : (place count : ℕ) {f g : ℕ → ℕ} → ((k : ℕ) → place ≤ k → k < place + count → f k ≡ g k) → sum_from place count f ≡ sum_from place count g
unfolding sum_from
sum_same place zero same = refl
sum_same place (suc count) same = ap₂ ◌+◌ (same place (omega arith) (omega arith)) (sum_same (suc place) count (λ k from to. same k (omega arith) (omega arith)))

-- nothing at each place
pub sum_none : (place count : ℕ) {f : ℕ → ℕ} → ((k : ℕ) → f k ≡ 0) → sum_from place count f ≡ 0
unfolding sum_from
sum_none place zero none = refl
sum_none place (suc count) none = omega (arith, none place, sum_none (suc place) count none)

-- more at one place, and the same elsewhere
pub sum_more : (place count at more : ℕ) {f g : ℕ → ℕ} → place ≤ at → at < place + count → ((k : ℕ) → (k ≡ at → ⊥) → g k ≡ f k) → g at ≡ f at + more → sum_from place count g ≡ sum_from place count f + more
unfolding sum_from
sum_more place zero at more from to same here = absurd (omega arith)
sum_more place (suc count) at more {f} {g} from to same here = go (eqb place at) refl (λ past. sum_more (suc place) count at more {f = f} {g = g} past (omega arith) same here)
  where
    go : (b : Bool) → eqb place at ≡ b → (suc place ≤ at → sum_from (suc place) count g ≡ sum_from (suc place) count f + more) → g place + sum_from (suc place) count g ≡ f place + sum_from (suc place) count f + more
    go true e on =
        let is = eqb-true place at e in
        omega (arith, ap g is, ap f is, here, sum_same (suc place) count {f = g} {g = f} (λ k past to. same k (λ at-it. omega (arith, at-it, is, past))))
    go false e on =
        let other = eqb-false place at e in
        omega (arith, same place other, on (later other))
      where
        later : (place ≡ at → ⊥) → suc place ≤ at
        later differ = omega (arith, from, differ)

-- ---- the roles of a set

-- What the roles of a set below a number have together.
unfoldable pub weight : (ℕ → ℕ) → (count : ℕ) → RoleSet → ℕ
weight f count set = sum_from 0 count (λ (role : ℕ). cond (has_role set role) (f role) 0)

pub weight_none : (f : ℕ → ℕ) (count : ℕ) → weight f count empty_set ≡ 0
unfolding weight
weight_none f count = sum_none 0 count (λ role. ap (λ (b : Bool). cond b (f role) 0) (has_empty role))

-- a role that is new to the set
pub weight_with : (f : ℕ → ℕ) (count : ℕ) (set : RoleSet) (role : ℕ) → role < count → count ≤ 128 → has_role set role ≡ false → weight f count (with_of set role) ≡ weight f count set + f role
unfolding weight
weight_with f count set role below few new =
    sum_more 0 count role (f role) (omega arith) (omega arith) (λ k other. ap (λ (b : Bool). cond b (f k) 0) (has_with set role k (omega arith) ∙ ap (λ (b : Bool). has_role set k || b) (ne_eqb role k (λ e. other (sym e))) ∙ or_none (has_role set k)))
    (omega (arith, ap (λ (b : Bool). cond b (f role) 0) (has_with set role role (omega arith) ∙ ap₂ ◌||◌ new (eq-eqb role role refl)), ap (λ (b : Bool). cond b (f role) 0) new))
  where
    or_none : (b : Bool) → (b || false) ≡ b
    or_none true = refl
    or_none false = refl
