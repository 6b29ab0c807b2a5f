-- The bits of a word: what the bit operations do to each, words with the same bits, and how many are set.
use Rattle.std.specs.Prelude.{ℕ, zero, suc, ◌+◌, ◌-◌, ◌*◌, ◌/◌, ◌%◌, ◌^◌, ◌<◌, min, max, Bool, true, false, cond, not, ◌&&◌, ◌||◌, ◌≡◌, refl, ◌⊎◌}
use Rattle.std.proofs.lemmas.Bool.{false≢true}
use Rattle.std.proofs.Common.{sym, ap₂, ◌∙◌, inl, inr, lit<, pow-add, pow_pos, shr-shr, shr_lt, mod-lt, div-add-mod', zero-add, suc-add, add_assoc, one-mul, pow-suc, div-one, one-add, add-one, arith}
use Rattle.std.proofs.Math.Path.{ap, fun_ext}
use Rattle.std.proofs.Math.Arith.{digits_mod, lt-one, bin_ind}
use Rattle.std.specs.Int.Bits.{bit_and, bit_or, bit_xor, differ, and_step, or_step, xor_step}
use Rattle.std.proofs.lemmas.Nat.{and_shr, or_shr, xor_shr, shl-shr}
use Rattle.std.specs.Int.Count.{ones, ones_step, count_trailing_zeros, under}
use Rattle.std.proofs.Math.Decide.{dec_lt}
use Rattle.std.proofs.Math.Dec.{eqb}
use Rattle.std.proofs.Math.Pow.{pow-lt}
use Rattle.std.proofs.Math.Nat.{mul-mod_left, div-eq_of_lt}
use Rattle.roles.specs.Sets.{bit}

-- a digit is 0 or 1
digit_cases : (P : ℕ → Type 0) → P 0 → P 1 → (x : ℕ) → x < 2 → P x
digit_cases P p0 p1 zero h = p0
digit_cases P p0 p1 (suc zero) h = p1
digit_cases P p0 p1 (suc (suc x)) h = absurd (omega arith)

-- an operation that works digit by digit, as `digit` says of two digits and `test` of two bits
module _ (op digit : ℕ → ℕ → ℕ) (test : Bool → Bool → Bool)
    (shr : (a b k : ℕ) → op a b / 2 ^ k ≡ op (a / 2 ^ k) (b / 2 ^ k))
    (step : (a b : ℕ) → op a b ≡ op (a / 2) (b / 2) * 2 + digit (a % 2) (b % 2))
    (fits : (x y : ℕ) → x < 2 → y < 2 → digit x y < 2)
    (tests : (x y : ℕ) → x < 2 → y < 2 → eqb (digit x y) 1 ≡ test (eqb x 1) (eqb y 1)) where
  lowest : (a b : ℕ) → op a b % 2 ≡ digit (a % 2) (b % 2)
  lowest a b =
      let small = fits (a % 2) (b % 2) (mod-lt a (lit< tt)) (mod-lt b (lit< tt)) in
      ap (λ (x : ℕ). x % 2) (step a b) ∙ digits_mod (op (a / 2) (b / 2)) small

  bit_of : (a b k : ℕ) → bit (op a b) k ≡ test (bit a k) (bit b k)
  unfolding bit
  bit_of a b k =
      ap (λ (x : ℕ). eqb (x % 2) 1) (shr a b k) ∙ ap (λ (x : ℕ). eqb x 1) (lowest (a / 2 ^ k) (b / 2 ^ k))
      ∙ tests (a / 2 ^ k % 2) (b / 2 ^ k % 2) (mod-lt (a / 2 ^ k) (lit< tt)) (mod-lt (b / 2 ^ k) (lit< tt))

-- what holds of each pair of digits holds of any two numbers below 2
two_digits : (P : ℕ → ℕ → Type 0) → P 0 0 → P 0 1 → P 1 0 → P 1 1 → (x y : ℕ) → x < 2 → y < 2 → P x y
two_digits P p00 p01 p10 p11 x y hx hy =
    digit_cases (λ (z : ℕ). P z y) (digit_cases (P 0) p00 p01 y hy) (digit_cases (P 1) p10 p11 y hy) x hx

-- the digit of the first that is not in the second
abbrev pub differs : Bool → Bool → Bool
differs true b = not b
differs false b = b

or_fits : (x y : ℕ) → x < 2 → y < 2 → max x y < 2
or_fits = two_digits (λ (x y : ℕ). max x y < 2) (lit< tt) (lit< tt) (lit< tt) (lit< tt)

or_tests : (x y : ℕ) → x < 2 → y < 2 → eqb (max x y) 1 ≡ (eqb x 1 || eqb y 1)
or_tests = two_digits (λ (x y : ℕ). eqb (max x y) 1 ≡ (eqb x 1 || eqb y 1)) refl refl refl refl

or_lowest : (a b : ℕ) → bit_or a b % 2 ≡ max (a % 2) (b % 2)
or_lowest = lowest bit_or max ◌||◌ or_shr or_step or_fits or_tests

pub bit_or_lem : (a b k : ℕ) → bit (bit_or a b) k ≡ (bit a k || bit b k)
bit_or_lem = bit_of bit_or max ◌||◌ or_shr or_step or_fits or_tests

pub bit_and_lem : (a b k : ℕ) → bit (bit_and a b) k ≡ (bit a k && bit b k)
bit_and_lem =
    bit_of bit_and min ◌&&◌ and_shr and_step (two_digits (λ (x y : ℕ). min x y < 2) (lit< tt) (lit< tt) (lit< tt) (lit< tt))
    (two_digits (λ (x y : ℕ). eqb (min x y) 1 ≡ (eqb x 1 && eqb y 1)) refl refl refl refl)

pub bit_xor_lem : (a b k : ℕ) → bit (bit_xor a b) k ≡ differs (bit a k) (bit b k)
bit_xor_lem =
    bit_of bit_xor differ differs xor_shr xor_step
    (two_digits (λ (x y : ℕ). differ x y < 2) (lit< tt) (lit< tt) (lit< tt) (lit< tt))
    (two_digits (λ (x y : ℕ). eqb (differ x y) 1 ≡ differs (eqb x 1) (eqb y 1)) refl refl refl refl)

-- the three digits of one place in a union may be grouped either way
max_assoc : (x y z : ℕ) → max (max x y) z ≡ max x (max y z)
max_assoc x y z = omega arith

pub or_assoc : (a b c : ℕ) → bit_or (bit_or a b) c ≡ bit_or a (bit_or b c)
or_assoc = bin_ind (λ (n : ℕ). (b c : ℕ) → bit_or (bit_or n b) c ≡ bit_or n (bit_or b c)) (λ b c. refl) step
  where
    step : (n : ℕ) → ((b c : ℕ) → bit_or (bit_or (n / 2) b) c ≡ bit_or (n / 2) (bit_or b c)) → (b c : ℕ) → bit_or (bit_or n b) c ≡ bit_or n (bit_or b c)
    step n rest b c =
        or_step (bit_or n b) c ∙ ap₂ (λ (x y : ℕ). bit_or x (c / 2) * 2 + max y (c % 2)) (or_shr n b 1) (or_lowest n b)
        ∙ ap₂ (λ (x y : ℕ). x * 2 + y) (rest (b / 2) (c / 2)) (max_assoc (n % 2) (b % 2) (c % 2))
        ∙ sym (or_step n (bit_or b c) ∙ ap₂ (λ (x y : ℕ). bit_or (n / 2) x * 2 + max (n % 2) y) (or_shr b c 1) (or_lowest b c))

-- the one bit of a power of two
pub bit_own : (k : ℕ) → bit (2 ^ k) k ≡ true
unfolding bit
bit_own k = ap (λ (x : ℕ). eqb (x / 2 ^ k % 2) 1) (sym (one-mul (2 ^ k))) ∙ ap (λ (x : ℕ). eqb (x % 2) 1) (shl-shr 1 k)

-- a bit below it, and a bit above it
bit_below : (d k : ℕ) → bit (2 ^ (suc d + k)) k ≡ false
unfolding bit
bit_below d k =
    ap (λ (x : ℕ). eqb (x / 2 ^ k % 2) 1) (pow-add 2 (suc d) k) ∙ ap (λ (x : ℕ). eqb (x % 2) 1) (shl-shr (2 ^ suc d) k)
    ∙ ap (λ (x : ℕ). eqb (x % 2) 1) (pow-suc 2 d) ∙ ap (λ (x : ℕ). eqb x 1) (mul-mod_left (2 ^ d) 2)

bit-above : (a k : ℕ) → a < 2 ^ k → bit a k ≡ false
unfolding bit
bit-above a k h = ap (λ (x : ℕ). eqb (x % 2) 1) (div-eq_of_lt h)

pub bit-other : (r k : ℕ) → bit (2 ^ r) k ≡ true → r ≡ k
bit-other r k h = go (dec_lt k r) (dec_lt r k)
  where
    go : Dec (k < r) → Dec (r < k) → r ≡ k
    go (yes lt) d =
        let far : suc (r - suc k) + k ≡ r = omega arith in
        absurd (false≢true (sym (rw far at (bit_below (r - suc k) k)) ∙ h))
    go (no nl) (yes lt) = absurd (false≢true (sym (bit-above (2 ^ r) k (pow-lt lt)) ∙ h))
    go (no nl) (no ng) = omega arith

pub bit_zero : (k : ℕ) → bit 0 k ≡ false
bit_zero k = bit-above 0 k (pow_pos k)

-- bit k + 1 of a word is bit k of its upper digits
bit_suc : (a k : ℕ) → bit a (suc k) ≡ bit (a / 2) k
unfolding bit
bit_suc a k = ap (λ (x : ℕ). eqb (x % 2) 1) (ap (λ (x : ℕ). a / 2 ^ x) (sym (one-add k)) ∙ sym (shr-shr a 1 k))

bit-first : (a : ℕ) → bit a 0 ≡ eqb (a % 2) 1
unfolding bit
bit-first a = ap (λ (x : ℕ). eqb (x % 2) 1) (div-one a)

half_below : (n a : ℕ) → a < 2 ^ suc n → a / 2 < 2 ^ n
half_below n a h = shr_lt n 1 (rw (add-one n) h)

-- a digit is told by its test
same_digit : (x y : ℕ) → x < 2 → y < 2 → eqb x 1 ≡ eqb y 1 → x ≡ y
same_digit =
    two_digits (λ (x y : ℕ). eqb x 1 ≡ eqb y 1 → x ≡ y) (λ e. refl) (λ e. absurd (false≢true e)) (λ e. absurd (false≢true (sym e))) (λ e. refl)

-- two words of n digits with the same bits are one
pub same_bits : (n a b : ℕ) → a < 2 ^ n → b < 2 ^ n → ((k : ℕ) → k < n → bit a k ≡ bit b k) → a ≡ b
same_bits zero a b ha hb same = lt-one ha ∙ sym (lt-one hb)
same_bits (suc n) a b ha hb same =
    let upper = same_bits n (a / 2) (b / 2) (half_below n a ha) (half_below n b hb) (λ k h. sym (bit_suc a k) ∙ same (suc k) (omega arith) ∙ bit_suc b k) in
    let lower = same_digit (a % 2) (b % 2) (mod-lt a (lit< tt)) (mod-lt b (lit< tt)) (sym (bit-first a) ∙ same 0 (omega arith) ∙ bit-first b) in
    sym (div-add-mod' a 2) ∙ ap₂ (λ (x y : ℕ). x * 2 + y) upper lower ∙ div-add-mod' b 2

-- of the n lowest digits, the one above the trailing zeros is set, where they are not all zeros, and none below it is
pub trailing_set : (n a : ℕ) → count_trailing_zeros n a < n → bit a (count_trailing_zeros n a) ≡ true
unfolding count_trailing_zeros
trailing_set zero a h = absurd (omega arith)
trailing_set (suc n) a h = go (a % 2) refl (mod-lt a (lit< tt)) (trailing_set n (a / 2)) h
  where
    go : (d : ℕ) → a % 2 ≡ d → d < 2 → (count_trailing_zeros n (a / 2) < n → bit (a / 2) (count_trailing_zeros n (a / 2)) ≡ true)
        → under d (count_trailing_zeros n (a / 2)) < suc n → bit a (under d (count_trailing_zeros n (a / 2))) ≡ true
    go zero e f rest g = bit_suc a (count_trailing_zeros n (a / 2)) ∙ rest (omega arith)
    go (suc zero) e f rest g = bit-first a ∙ ap (λ (x : ℕ). eqb x 1) e
    go (suc (suc d)) e f rest g = absurd (omega arith)

pub trailing_clear : (n a k : ℕ) → k < count_trailing_zeros n a → bit a k ≡ false
unfolding count_trailing_zeros
trailing_clear zero a k h = absurd (omega arith)
trailing_clear (suc n) a k h = go (a % 2) k refl (trailing_clear n (a / 2)) h
  where
    go : (d j : ℕ) → a % 2 ≡ d → ((i : ℕ) → i < count_trailing_zeros n (a / 2) → bit (a / 2) i ≡ false) → j < under d (count_trailing_zeros n (a / 2)) → bit a j ≡ false
    go zero zero e rest g = bit-first a ∙ ap (λ (x : ℕ). eqb x 1) e
    go zero (suc j) e rest g = bit_suc a j ∙ rest j (omega arith)
    go (suc d) j e rest g = absurd (omega arith)

-- how many of the numbers below n pass the test
unfoldable pub tally : ℕ → (ℕ → Bool) → ℕ
tally zero test = 0
tally (suc n) test = cond (test 0) 1 0 + tally n (λ k. test (suc k))

digit_counts : (x : ℕ) → x < 2 → x ≡ cond (eqb x 1) 1 0
digit_counts = digit_cases (λ (x : ℕ). x ≡ cond (eqb x 1) 1 0) refl refl

-- the set digits of a word of n digits
pub ones_tally : (n a : ℕ) → a < 2 ^ n → ones a ≡ tally n (bit a)
unfolding tally ones
ones_tally zero a h = ap ones (lt-one h)
ones_tally (suc n) a h =
    ones_step a ∙ ap₂ ◌+◌ (digit_counts (a % 2) (mod-lt a (lit< tt)) ∙ ap (λ (b : Bool). cond b 1 0) (sym (bit-first a)))
    (ones_tally n (a / 2) (half_below n a h) ∙ ap (tally n) (fun_ext (λ k. sym (bit_suc a k))))

-- the numbers below m, and the n from m on
pub tally_join : (m n : ℕ) (test : ℕ → Bool) → tally (m + n) test ≡ tally m test + tally n (λ k. test (m + k))
unfolding tally
tally_join zero n test = rw (zero-add n) (sym (zero-add (tally n test)) ∙ ap (λ (f : ℕ → Bool). 0 + tally n f) (fun_ext (λ k. ap test (sym (zero-add k)))))
tally_join (suc m) n test =
    ap (λ (x : ℕ). tally x test) (suc-add m n)
    ∙ ap (λ (x : ℕ). cond (test 0) 1 0 + x) (tally_join m n (λ k. test (suc k)))
    ∙ sym (add_assoc (cond (test 0) 1 0) (tally m (λ k. test (suc k))) (tally n (λ k. test (suc (m + k)))))
    ∙ ap (λ (f : ℕ → Bool). cond (test 0) 1 0 + tally m (λ k. test (suc k)) + tally n f) (fun_ext (λ k. ap test (sym (suc-add m k))))

pub tally_same : (n : ℕ) (test test' : ℕ → Bool) → ((k : ℕ) → k < n → test k ≡ test' k) → tally n test ≡ tally n test'
unfolding tally
tally_same zero test test' same = refl
tally_same (suc n) test test' same =
    ap₂ (λ (b : Bool) (x : ℕ). cond b 1 0 + x) (same 0 (omega arith))
    (tally_same n (λ k. test (suc k)) (λ k. test' (suc k)) (λ k h. same (suc k) (omega arith)))

-- a test that one number fewer passes
pub tally_less : (n : ℕ) (test less : ℕ → Bool) (k : ℕ) → k < n → test k ≡ true → less k ≡ false → ((j : ℕ) → (j ≡ k → ⊥) → less j ≡ test j)
    → suc (tally n less) ≡ tally n test
unfolding tally
tally_less zero test less k h passes fails others = absurd (omega arith)
tally_less (suc n) test less zero h passes fails others =
    let rest = tally_same n (λ j. less (suc j)) (λ j. test (suc j)) (λ j g. others (suc j) (λ e. absurd (omega arith))) in
    rw (passes, fails) (omega (arith, rest))
tally_less (suc n) test less (suc k) h passes fails others =
    let rest = tally_less n (λ j. test (suc j)) (λ j. less (suc j)) k (omega arith) passes fails (λ j ne. others (suc j) (λ e. ne (omega arith))) in
    rw (others 0 (λ e. absurd (omega arith))) (omega (arith, rest))

-- a number below n that passes the test, or none does
pub search_below : (n : ℕ) (test : ℕ → Bool) → ((k : ℕ) × (test k ≡ true)) ⊎ ((k : ℕ) → k < n → test k ≡ false)
search_below zero test = inr (λ k h. absurd (omega arith))
search_below (suc n) test = go (test n) refl (search_below n test)
  where
    go : (b : Bool) → test n ≡ b → ((k : ℕ) × (test k ≡ true)) ⊎ ((k : ℕ) → k < n → test k ≡ false)
        → ((k : ℕ) × (test k ≡ true)) ⊎ ((k : ℕ) → k < suc n → test k ≡ false)
    go true e r = inl (n, e)
    go false e (inl found) = inl found
    go false e (inr none) = inr (λ k h. last k h (dec_lt k n))
      where
        last : (k : ℕ) → k < suc n → Dec (k < n) → test k ≡ false
        last k h (yes lt) = none k lt
        last k h (no ge) =
            let same : k ≡ n = omega arith in
            ap test same ∙ e
