-- What the tests of a line in turn come to, and what that says of each.
use Rattle.std.specs.Prelude.{ℕ, true, false, List, [], ◌∷◌, ◌++◌, ◌≡◌, refl}
use Rattle.std.proofs.Common.{inl, inr, sym, subst, ◌∙◌}
use Rattle.walking.specs.Turns.{Fails, Pass, Test, in_turn, test}

-- ---- what is so of any line

-- What holds of a line that is refused for its first test that fails, and of a good one, holds of what the line comes to.
pub turn_cases : {A : Type 0} (P : A → Type 0) (bad : ℕ → A) (tests : List Test) (good : A) → ((k : ℕ) → Fails tests k → P (bad k)) → (Pass tests → P good) → P (in_turn bad tests good)
unfolding in_turn
turn_cases P bad [] good fails passes = passes tt
turn_cases P bad (test number true ∷ more) good fails passes = turn_cases P bad more good (λ k f. fails k (inr (refl, f))) (λ p. passes (refl, p))
turn_cases P bad (test number false ∷ more) good fails passes = fails number (inl (refl, refl))

-- A good answer, which no refusal is, comes of tests that all pass.
pub turn_good : {A : Type 0} (bad : ℕ → A) (tests : List Test) (good answer : A) → ((k : ℕ) → bad k ≡ answer → ⊥) → in_turn bad tests good ≡ answer → Pass tests × (good ≡ answer)
turn_good bad tests good answer apart =
    turn_cases (λ (x : _). x ≡ answer → Pass tests × (good ≡ answer)) bad tests good (λ k f is. absurd (apart k is)) (λ p is. (p, is))

-- Tests that all pass leave the good answer,
pub turn_passes : {A : Type 0} (bad : ℕ → A) (tests : List Test) (good : A) → Pass tests → in_turn bad tests good ≡ good
unfolding in_turn
turn_passes bad [] good p = refl
turn_passes bad (test number b ∷ more) good p = rw p.0 (turn_passes bad more good p.1)

-- and the first that fails decides.
pub turn_fails : {A : Type 0} (bad : ℕ → A) (tests : List Test) (good : A) {k : ℕ} → Fails tests k → in_turn bad tests good ≡ bad k
unfolding in_turn
turn_fails bad [] good f = absurd f
turn_fails bad (test number b ∷ more) good (inl (is, same)) = rw (is, same) refl
turn_fails bad (test number b ∷ more) good (inr (is, later)) = rw is (turn_fails bad more good later)

-- A refusal, which the good answer is not, comes of the first test that fails,
pub turn_bad : {A : Type 0} (bad : ℕ → A) (tests : List Test) (good : A) {k : ℕ} → ((j : ℕ) → bad j ≡ bad k → j ≡ k) → (good ≡ bad k → ⊥) → in_turn bad tests good ≡ bad k → Fails tests k
turn_bad bad tests good {k} one apart =
    turn_cases (λ (x : _). x ≡ bad k → Fails tests k) bad tests good (λ j f is. subst (Fails tests) (one j is) f) (λ p is. absurd (apart is))

-- and the good answer counts only where all tests pass.
pub turn_same : {A : Type 0} (bad : ℕ → A) (tests : List Test) (good good' : A) → (Pass tests → good ≡ good') → in_turn bad tests good ≡ in_turn bad tests good'
turn_same bad tests good good' same =
    turn_cases (λ (x : _). x ≡ in_turn bad tests good') bad tests good (λ k f. sym (turn_fails bad tests good' f)) (λ p. same p ∙ sym (turn_passes bad tests good' p))

-- What is made of the answers is made of what the line comes to,
pub turn_made : {A B : Type 0} (f : A → B) (bad : ℕ → A) (tests : List Test) (good : A) → f (in_turn bad tests good) ≡ in_turn (λ k. f (bad k)) tests (f good)
unfolding in_turn
turn_made f bad [] good = refl
turn_made f bad (test number true ∷ more) good = turn_made f bad more good
turn_made f bad (test number false ∷ more) good = refl

-- and tests may be asked in two parts.
pub turn_parted : {A : Type 0} (bad : ℕ → A) (tests more : List Test) (good : A) → in_turn bad (tests ++ more) good ≡ in_turn bad tests (in_turn bad more good)
unfolding in_turn
turn_parted bad [] more good = refl
turn_parted bad (test number true ∷ tests) more good = turn_parted bad tests more good
turn_parted bad (test number false ∷ tests) more good = refl
