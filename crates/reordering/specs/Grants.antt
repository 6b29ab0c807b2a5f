-- Two grants one after the other, each of a role that is not held yet: they may change places.
use Rattle.std.specs.Prelude.{ℕ, zero, suc, false, [], ◌∷◌, ◌⊎◌, ◌≡◌, refl}
use Rattle.std.proofs.lemmas.Bool.{false≢true}
use Rattle.std.proofs.Common.{inl, inr, sym, ap, ap₂, ◌∙◌}
use Rattle.roles.specs.declared.RoleSet.{RoleSet}
use Rattle.roles.specs.Sets.{has_role, with_of}
use Rattle.roles.specs.Members.{◌∈◌}
use Rattle.roles.specs.MemberLaws.{absent_test, with_cases, with_old}
use Rattle.model.specs.Policy.{State, person, with_roles, with_role, granted}
use Rattle.reordering.specs.FieldsSame.{with_swap}

-- Both lead to the same state,
pub granted_swap : (σ : State) (user role user' role' : ℕ) → granted (granted σ user role) user' role' ≡ granted (granted σ user' role') user role
unfolding granted person with_role
granted_swap [] user role user' role' = refl
granted_swap (p ∷ σ) zero role zero role' = ap (λ (roles : RoleSet). with_roles p roles ∷ σ) (with_swap p.roles role role')
granted_swap (p ∷ σ) zero role (suc user') role' = refl
granted_swap (p ∷ σ) (suc user) role zero role' = refl
granted_swap (p ∷ σ) (suc user) role (suc user') role' = ap (λ (τ : State). p ∷ τ) (granted_swap σ user role user' role')

-- what is not held after the first is not held before it,
pub new_before : (σ : State) (user role user' role' : ℕ) → has_role (person (granted σ user role) user').roles role' ≡ false → has_role (person σ user').roles role' ≡ false
unfolding granted person with_role
new_before [] user role user' role' new = new
new_before (p ∷ σ) zero role zero role' new = absent_test (λ held. false≢true (sym new ∙ (with_old role held).found))
new_before (p ∷ σ) zero role (suc user') role' new = new
new_before (p ∷ σ) (suc user) role zero role' new = new
new_before (p ∷ σ) (suc user) role (suc user') role' new = new_before σ user role user' role' new

-- and what the first gives is not held after the second.
with_new_after : (roles : RoleSet) (role role' : ℕ) → has_role roles role ≡ false → has_role (with_of roles role) role' ≡ false → has_role (with_of roles role') role ≡ false
with_new_after roles role role' old new = absent_test (λ held. go held (with_cases roles role' held))
  where
    go : role ∈ with_of roles role' → (role ∈ roles) ⊎ (role ≡ role') → ⊥
    go held (inl before) = false≢true (sym old ∙ before.found)
    go held (inr same) = false≢true (sym new ∙ ap₂ (λ (a b : ℕ). has_role (with_of roles a) b) same (sym same) ∙ held.found)

pub new_after : (σ : State) (user role user' role' : ℕ) → has_role (person σ user).roles role ≡ false → has_role (person (granted σ user role) user').roles role' ≡ false
    → has_role (person (granted σ user' role') user).roles role ≡ false
unfolding granted person with_role
new_after [] user role user' role' old new = old
new_after (p ∷ σ) zero role zero role' old new = with_new_after p.roles role role' old new
new_after (p ∷ σ) zero role (suc user') role' old new = old
new_after (p ∷ σ) (suc user) role zero role' old new = old
new_after (p ∷ σ) (suc user) role (suc user') role' old new = new_after σ user role user' role' old new
