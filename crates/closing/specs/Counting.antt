-- Counting the numbers below a bound that pass a test: a larger test counts no less, and where it counts no more it is the same test.
use Rattle.std.specs.Prelude.{ℕ, zero, suc, ◌≤◌, ◌<◌, Bool, true, false, cond, ◌≡◌, refl}
use Rattle.std.proofs.lemmas.Bool.{false≢true}
use Rattle.std.proofs.Common.{arith}
use Rattle.roles.specs.Words.{tally}

-- one number counts at most 1
one_most : (b : Bool) → cond b 1 0 ≤ 1
one_most true = omega arith
one_most false = omega arith

pub tally_most : (n : ℕ) (test : ℕ → Bool) → tally n test ≤ n
unfolding tally
tally_most zero test = omega arith
tally_most (suc n) test = omega (arith, one_most (test 0), tally_most n (λ k. test (suc k)))

-- where the second test passes what the first does
one_grows : (a b : Bool) → (a ≡ true → b ≡ true) → cond a 1 0 ≤ cond b 1 0
one_grows true true up = omega arith
one_grows true false up = absurd (false≢true (up refl))
one_grows false true up = omega arith
one_grows false false up = omega arith

one_full : (a b : Bool) → cond b 1 0 ≤ cond a 1 0 → b ≡ true → a ≡ true
one_full true b le e = refl
one_full false true le e = absurd (omega arith)
one_full false false le e = e

pub tally_grows : (n : ℕ) (test more : ℕ → Bool) → ((k : ℕ) → k < n → test k ≡ true → more k ≡ true) → tally n test ≤ tally n more
unfolding tally
tally_grows zero test more up = omega arith
tally_grows (suc n) test more up =
    omega (arith, one_grows (test 0) (more 0) (up 0 (omega arith)), tally_grows n (λ k. test (suc k)) (λ k. more (suc k)) (λ k h. up (suc k) (omega arith)))

-- and no more of them, the first passes what the second does
pub tally-full : (n : ℕ) (test more : ℕ → Bool) → ((k : ℕ) → k < n → test k ≡ true → more k ≡ true) → tally n more ≤ tally n test
    → (k : ℕ) → k < n → more k ≡ true → test k ≡ true
unfolding tally
tally-full zero test more up full k h e = absurd (omega arith)
tally-full (suc n) test more up full zero h e =
    let rest = tally_grows n (λ k. test (suc k)) (λ k. more (suc k)) (λ k h. up (suc k) (omega arith)) in
    one_full (test 0) (more 0) (omega arith) e
tally-full (suc n) test more up full (suc k) h e =
    let first = one_grows (test 0) (more 0) (up 0 (omega arith)) in
    tally-full n (λ k. test (suc k)) (λ k. more (suc k)) (λ k h. up (suc k) (omega arith)) (omega arith) k (omega arith) e
