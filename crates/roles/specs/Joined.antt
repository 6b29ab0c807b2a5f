-- Tests joined, and tests of sets: each is true exactly when what it stands for holds.
use Rattle.std.specs.Prelude.{Bool, true, false, not, ◌&&◌, ◌||◌, ◌↔◌, ◌⊎◌, ◌≡◌, refl}
use Rattle.std.proofs.lemmas.Bool.{false≢true}
use Rattle.std.proofs.Math.Bool.{and-eq-true_iff}
use Rattle.std.proofs.Common.{inl, inr, ⊎_elim}
use Rattle.roles.specs.declared.RoleSet.{RoleSet}
use Rattle.roles.specs.Sets.{shares_role, includes}
use Rattle.roles.specs.Members.{Share, Within, Sized}
use Rattle.roles.specs.MemberLaws.{includes_within, within_includes, shares_share, share_shares}

-- one of the two holds
pub either_exact : (a b : Bool) {A B : Type 0} → a ≡ true ↔ A → b ≡ true ↔ B → (a || b) ≡ true ↔ (A ⊎ B)
either_exact true b one two = (λ e. inl (one.0 refl), λ h. refl)
either_exact false b one two = (λ e. inr (two.0 e), ⊎_elim (λ x. absurd (false≢true (one.1 x))) two.1)

-- both hold
pub both_exact : (a b : Bool) {A B : Type 0} → a ≡ true ↔ A → b ≡ true ↔ B → (a && b) ≡ true ↔ (A × B)
both_exact a b one two = (
  λ e. (one.0 ((and-eq-true_iff a b).0 e).0, two.0 ((and-eq-true_iff a b).0 e).1),
  λ (x, y). (and-eq-true_iff a b).1 (one.1 x, two.1 y),
)

-- it does not hold
pub not_exact : (a : Bool) {A : Type 0} → a ≡ true ↔ A → not a ≡ true ↔ (A → ⊥)
not_exact true one = (λ e x. false≢true e, λ none. absurd (none (one.0 refl)))
not_exact false one = (λ e x. false≢true (one.1 x), λ none. refl)

-- two sets share a role
pub share_exact : {s : RoleSet} (t : RoleSet) → Sized s → shares_role s t ≡ true ↔ Share s t
share_exact {s} t sized = (shares_share sized, share_shares s t)

-- one set lies within another
pub within_exact : {s : RoleSet} (t : RoleSet) → Sized s → includes t s ≡ true ↔ Within s t
within_exact {s} t sized = (includes_within s t, within_includes sized)
