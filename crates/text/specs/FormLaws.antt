-- The forms of names, sets and numbers, from what a reader finds on its way.
use Rattle.std.specs.Prelude.{ℕ, zero, suc, ◌+◌, ◌-◌, ◌*◌, ◌^◌, ◌≤◌, ◌<◌, Bool, true, false, cond, not, ◌&&◌, ◌||◌, List, [], ◌∷◌, ◌++◌, ◌≡◌, refl, eqb, leb, length, get_or, take, drop, Some, None, is_some, unwrap_or}
use Rattle.std.specs.List.{list_all}
use Rattle.std.proofs.Math.Bool.{and_assoc, and-false, and-eq-true_iff}
use Rattle.std.proofs.lemmas.Bool.{false≢true, not-true, eqb-false, lt-leb}
use Rattle.std.proofs.Common.{sym, ap, ap₂, ◌∙◌, le-leb, eq-eqb, ne_eqb, leb-true, eqb-true, lit≤, drop_of_length-le, drop-cons, pow-suc, add-one, arith}
use Rattle.text.specs.Forms.{between, decimal, every, is_name, is_number, name_byte, number_of, number_in}

-- ---- going through a byte string one byte at a time

-- the test of what is left is that of the next byte and of what is left after it
pub every-next {ℓ} : {A : Type ℓ} (test : A → Bool) (s : List A) (i : ℕ) (past : A) → i < length s → every test (drop i s) ≡ (test (get_or s i past) && every test (drop (i + 1) s))
unfolding every
every-next test s i past h = rw (add-one i, drop-cons s i past h)

-- and so of the number written
pub decimal-next : (before : ℕ) (s : List ℕ) (i : ℕ) → i < length s → decimal before (drop i s) ≡ decimal (before * 10 + (get_or s i 0 - 48)) (drop (i + 1) s)
unfolding decimal
decimal-next before s i h = rw (add-one i, drop-cons s i 0 h)

-- nothing is left
pub every_end {ℓ} : {A : Type ℓ} (test : A → Bool) (s : List A) (i : ℕ) → length s ≤ i → every test (drop i s) ≡ true
unfolding every
every_end test s i h = rw (drop_of_length-le s h)

pub decimal_end : (before : ℕ) (s : List ℕ) (i : ℕ) → length s ≤ i → decimal before (drop i s) ≡ before
unfolding decimal
decimal_end before s i h = rw (drop_of_length-le s h)

-- a number of i digits is below 10 ^ i, and up to three digits are below 1,000
pub digits_next : (n i d : ℕ) → n < 10 ^ i → d < 10 → n * 10 + d < 10 ^ (i + 1)
digits_next n i d h k = rw (add-one i, pow-suc 10 i) (omega arith)

pub digits_few : (i : ℕ) → i ≤ 3 → 10 ^ i ≤ 1000
digits_few zero h = lit≤ tt
digits_few (suc zero) h = lit≤ tt
digits_few (suc (suc zero)) h = lit≤ tt
digits_few (suc (suc (suc zero))) h = lit≤ tt
digits_few (suc (suc (suc (suc i)))) h = absurd (omega arith)

-- ---- the form of a name and of a number, from what a reader finds on its way

pub name_short : (s : List ℕ) → length s < 1 → is_name s ≡ false
unfolding is_name
name_short s h = rw (lt-leb 1 (length s) h)

pub name_long : (s : List ℕ) → 32 < length s → is_name s ≡ false
unfolding is_name
name_long s h = rw (lt-leb (length s) 32 h) (ap (λ (b : Bool). b && every name_byte s) (and-false (leb 1 (length s))))

pub name_fits : (s : List ℕ) → 1 ≤ length s → length s ≤ 32 → is_name s ≡ every name_byte s
unfolding is_name
name_fits s least most = rw (le-leb 1 (length s) least, le-leb (length s) 32 most)

-- a byte that fails the test
pub every_bad {ℓ} : {A : Type ℓ} (test : A → Bool) (s : List A) (i : ℕ) (past : A) → i < length s → test (get_or s i past) ≡ false → every test (drop i s) ≡ false
every_bad test s i past h bad = every-next test s i past h ∙ ap (λ (b : Bool). b && every test (drop (i + 1) s)) bad

pub every_good {ℓ} : {A : Type ℓ} (test : A → Bool) (s : List A) (i : ℕ) (past : A) → i < length s → test (get_or s i past) ≡ true → every test (drop i s) ≡ every test (drop (i + 1) s)
every_good test s i past h good = every-next test s i past h ∙ ap (λ (b : Bool). b && every test (drop (i + 1) s)) good

pub number_short : (s : List ℕ) → length s < 1 → number_of s ≡ 0
unfolding number_of is_number
number_short s h = rw (lt-leb 1 (length s) h)

pub number_long : (s : List ℕ) → 3 < length s → number_of s ≡ 0
unfolding number_of is_number
number_long s h = rw (lt-leb (length s) 3 h, and-false (leb 1 (length s)))

pub number_zero : (s : List ℕ) → get_or s 0 0 ≡ 48 → number_of s ≡ 0
unfolding number_of is_number
number_zero s h = rw (eq-eqb (get_or s 0 0) 48 h, and-false (leb 1 (length s) && leb (length s) 3))

pub number_bad : (s : List ℕ) → every (between 48 57) s ≡ false → number_of s ≡ 0
unfolding number_of is_number
number_bad s h = rw (h, and-false (leb 1 (length s) && leb (length s) 3 && not (eqb (get_or s 0 0) 48)))

pub number_good : (s : List ℕ) → 1 ≤ length s → length s ≤ 3 → (get_or s 0 0 ≡ 48 → ⊥) → every (between 48 57) s ≡ true → number_of s ≡ decimal 0 s
unfolding number_of is_number
number_good s least most lead digits = rw (le-leb 1 (length s) least, le-leb (length s) 3 most, ne_eqb (get_or s 0 0) 48 lead, digits)

-- a byte in a range
pub in_range : (least most byte : ℕ) → between least most byte ≡ true → (least ≤ byte) × (byte ≤ most)
unfolding between
in_range least most byte h =
    let parts = (and-eq-true_iff (leb least byte) (leb byte most)).0 h in
    (leb-true least byte parts.0, leb-true byte most parts.1)

-- a number written is not 0: its first digit is not
decimal_some : (before : ℕ) (s : List ℕ) → 0 < before → 0 < decimal before s
unfolding decimal
decimal_some before [] some = some
decimal_some before (digit ∷ rest) some = decimal_some (before * 10 + (digit - 48)) rest (omega arith)

number_positive : (s : List ℕ) → is_number s ≡ true → 0 < decimal 0 s
unfolding is_number decimal every
number_positive [] form = absurd (false≢true form)
number_positive (digit ∷ rest) form =
    let digits = (and-eq-true_iff (leb 1 (suc (length rest)) && leb (suc (length rest)) 3 && not (eqb digit 48)) (between 48 57 digit && every (between 48 57) rest)).0 form in
    let lead = ((and-eq-true_iff (leb 1 (suc (length rest)) && leb (suc (length rest)) 3) (not (eqb digit 48))).0 digits.0).1 in
    let range = in_range 48 57 digit ((and-eq-true_iff (between 48 57 digit) (every (between 48 57) rest)).0 digits.1).0 in
    let other = eqb-false digit 48 (not-true (eqb digit 48) lead) in
    decimal_some (0 * 10 + (digit - 48)) rest (omega (arith, range, other))

-- the number written, or that there is none, by the number that is 0 where none is written
pub number_some : (s : List ℕ) {n : ℕ} → Some n ≡ number_in s → (number_of s ≡ n) × (0 < n)
unfolding number_in number_of
number_some s {n} written = go (is_number s) refl written
  where
    go : (b : Bool) → is_number s ≡ b → Some n ≡ cond b (Some (decimal 0 s)) None → (cond b (decimal 0 s) 0 ≡ n) × (0 < n)
    go true form same = let value : decimal 0 s ≡ n = cc in (value, omega (arith, number_positive s form))
    go false form same = absurd (cc)

pub number_none : (s : List ℕ) → None ≡ number_in s → number_of s ≡ 0
unfolding number_in number_of
number_none s none = go (is_number s) none
  where
    go : (b : Bool) → None ≡ cond b (Some (decimal 0 s)) None → cond b (decimal 0 s) 0 ≡ 0
    go true same = absurd (cc)
    go false same = refl

pub number_missing : (s : List ℕ) → number_of s ≡ 0 → None ≡ number_in s
unfolding number_in number_of
number_missing s none = go (is_number s) refl none
  where
    go : (b : Bool) → is_number s ≡ b → cond b (decimal 0 s) 0 ≡ 0 → None ≡ cond b (Some (decimal 0 s)) None
    go true form same = absurd (omega (arith, number_positive s form, same))
    go false form same = refl

pub number_written : (s : List ℕ) → (number_of s ≡ 0 → ⊥) → Some (number_of s) ≡ number_in s
unfolding number_in number_of
number_written s some = go (is_number s) some
  where
    go : (b : Bool) → (cond b (decimal 0 s) 0 ≡ 0 → ⊥) → Some (cond b (decimal 0 s) 0) ≡ cond b (Some (decimal 0 s)) None
    go true other = refl
    go false other = absurd (other refl)

-- whether a number is written, and the number with 0 for none
pub number_test : (s : List ℕ) → is_some (number_in s) ≡ not (eqb (number_of s) 0)
unfolding number_in number_of
number_test s = go (is_number s) refl
  where
    go : (b : Bool) → is_number s ≡ b → is_some (cond b (Some (decimal 0 s)) None) ≡ not (eqb (cond b (decimal 0 s) 0) 0)
    go true form = sym (ap not (ne_eqb (decimal 0 s) 0 (omega (arith, number_positive s form))))
    go false form = refl

pub number_or_zero : (s : List ℕ) → unwrap_or (number_in s) 0 ≡ number_of s
unfolding number_in number_of
number_or_zero s = go (is_number s)
  where
    go : (b : Bool) → unwrap_or (cond b (Some (decimal 0 s)) None) 0 ≡ cond b (decimal 0 s) 0
    go true = refl
    go false = refl

-- a field in the form of a number writes what its digits write
pub number_here : (s : List ℕ) → 1 ≤ length s → length s ≤ 3 → (get_or s 0 0 ≡ 48 → ⊥) → every (between 48 57) s ≡ true → Some (decimal 0 s) ≡ number_in s
unfolding number_in is_number
number_here s least most lead digits = rw (le-leb 1 (length s) least, le-leb (length s) 3 most, ne_eqb (get_or s 0 0) 48 lead, digits)

-- the test of a digit
pub digit_low : (byte : ℕ) → byte < 48 → between 48 57 byte ≡ false
unfolding between
digit_low byte h = rw (lt-leb 48 byte h)

pub digit_high : (byte : ℕ) → 57 < byte → between 48 57 byte ≡ false
unfolding between
digit_high byte h = rw (lt-leb byte 57 h, and-false (leb 48 byte))

pub digit_good : (byte : ℕ) → 48 ≤ byte → byte ≤ 57 → between 48 57 byte ≡ true
unfolding between
digit_good byte least most = rw (le-leb 48 byte least, le-leb byte 57 most)

-- ---- the bytes of a name

-- none is 0
pub name_byte_range : (byte : ℕ) → name_byte byte ≡ true → (48 ≤ byte) × (byte ≤ 122)
unfolding name_byte
name_byte_range byte h = go (between 65 90 byte) (between 97 122 byte) (between 48 57 byte) (eqb byte 95) refl refl refl refl h
  where
    go : (b c d e : Bool) → between 65 90 byte ≡ b → between 97 122 byte ≡ c → between 48 57 byte ≡ d → eqb byte 95 ≡ e → (b || c || d || e) ≡ true
        → (48 ≤ byte) × (byte ≤ 122)
    go true c d e pb pc pd pe h = omega (arith, in_range 65 90 byte pb)
    go false true d e pb pc pd pe h = omega (arith, in_range 97 122 byte pc)
    go false false true e pb pc pd pe h = omega (arith, in_range 48 57 byte pd)
    go false false false true pb pc pd pe h = omega (arith, eqb-true byte 95 pe)
    go false false false false pb pc pd pe h = absurd (false≢true h)

-- the test of each element is that of the library
pub every_all : {A : Type 0} (test : A → Bool) (s : List A) → every test s ≡ list_all test s
unfolding every
every_all test [] = refl
every_all test (a ∷ rest) = ap (λ (b : Bool). test a && b) (every_all test rest)

-- of some and of others
pub every_more {ℓ} : {A : Type ℓ} (test : A → Bool) (s t : List A) → every test (s ++ t) ≡ (every test s && every test t)
unfolding every
every_more test [] t = refl
every_more test (a ∷ s) t = ap (λ (b : Bool). test a && b) (every_more test s t) ∙ sym (and_assoc (test a) (every test s) (every test t))

-- the first bytes, and the bytes after them
pub every_take {ℓ} : {A : Type ℓ} (test : A → Bool) (n : ℕ) (s : List A) → every test s ≡ true → every test (take n s) ≡ true
unfolding every
every_take test zero s h = refl
every_take test (suc n) [] h = refl
every_take test (suc n) (a ∷ s) h =
    let parts = (and-eq-true_iff (test a) (every test s)).0 h in
    ap₂ ◌&&◌ parts.0 (every_take test n s parts.1)

pub every_drop {ℓ} : {A : Type ℓ} (test : A → Bool) (n : ℕ) (s : List A) → every test s ≡ true → every test (drop n s) ≡ true
unfolding every
every_drop test zero s h = h
every_drop test (suc n) [] h = refl
every_drop test (suc n) (a ∷ s) h = every_drop test n s ((and-eq-true_iff (test a) (every test s)).0 h).1
