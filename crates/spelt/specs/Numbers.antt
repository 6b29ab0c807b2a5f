-- A rule number in decimal: a field is read as a number exactly when it is that number in decimal, with at most three digits.
use Rattle.std.specs.Prelude.{ℕ, zero, suc, ◌+◌, ◌-◌, ◌*◌, ◌/◌, ◌%◌, ◌≤◌, ◌<◌, Bool, true, false, cond, not, ◌&&◌, List, [], ◌∷◌, ◌++◌, ◌≡◌, refl, eqb, leb, length, get_or}
use Rattle.std.proofs.Math.Bool.{and-eq-true_iff}
use Rattle.std.proofs.Common.{sym, ap, ap₂, ◌∙◌, lt-ltb, le-ltb, ne_eqb, leb-true, arith}
use Rattle.std.proofs.Math.Path.{subst⁻¹}
use Rattle.std.proofs.lemmas.Bool.{not-true, eqb-false}
use Rattle.std.proofs.Math.Decide.{dec_lt}
use Rattle.text.specs.Forms.{every, between, is_number, decimal as value_of, number_of}
use Rattle.text.specs.FormLaws.{in_range, digit_good, number_good}
use Rattle.writing.specs.Written.{digits_of, decimal}
use Rattle.rereading.specs.Cuts.{free}

-- digits that write a number
pub record Digits (s : List ℕ) (n : ℕ) : Type 0 where
  pub form : every (between 48 57) s ≡ true
  pub value : number_of s ≡ n

-- ---- the digits of a number below 1,000

one_digit : (more n : ℕ) → n < 10 → digits_of more n ≡ (48 + n) ∷ []
unfolding digits_of
one_digit zero n small = ap (λ (k : ℕ). (48 + k) ∷ []) (omega arith)
one_digit (suc more) n small = rw (lt-ltb n 10 small)

more_digits : (more n : ℕ) → 10 ≤ n → digits_of (suc more) n ≡ digits_of more (n / 10) ++ ((48 + n % 10) ∷ [])
unfolding digits_of
more_digits more n large = rw (le-ltb n 10 large)

two_digits : (n : ℕ) → 10 ≤ n → n < 100 → (more : ℕ) → digits_of (suc more) n ≡ (48 + n / 10) ∷ (48 + n % 10) ∷ []
two_digits n least most more = more_digits more n least ∙ ap (λ (l : List ℕ). l ++ ((48 + n % 10) ∷ [])) (one_digit more (n / 10) (omega arith))

three_digits : (n : ℕ) → 100 ≤ n → n < 1000 → (more : ℕ) → digits_of (suc (suc more)) n ≡ (48 + n / 10 / 10) ∷ (48 + n / 10 % 10) ∷ (48 + n % 10) ∷ []
three_digits n least most more = more_digits (suc more) n (omega arith) ∙ ap (λ (l : List ℕ). l ++ ((48 + n % 10) ∷ [])) (two_digits (n / 10) (omega arith) (omega arith) more)

-- ---- a number in decimal is read as the number

-- digits in their range, the first of them not 0
digits_value : (s : List ℕ) {n : ℕ} → 1 ≤ length s → length s ≤ 3 → (get_or s 0 0 ≡ 48 → ⊥) → every (between 48 57) s ≡ true → value_of 0 s ≡ n → Digits s n
digits_value s least most lead form value = record { form = form; value = number_good s least most lead form ∙ value }

pub number_digits : (n : ℕ) → 0 < n → n < 1000 → Digits (decimal n) n
unfolding decimal every value_of
number_digits n some most = go (dec_lt n 10) (dec_lt n 100)
  where
    digit : (k : ℕ) → k < 10 → between 48 57 (48 + k) ≡ true
    digit k small = digit_good (48 + k) (omega arith) (omega arith)

    go : Dec (n < 10) → Dec (n < 100) → Digits (digits_of 19 n) n
    go (yes one) two = subst⁻¹ (λ (s : List ℕ). Digits s n) (one_digit 19 n one) (digits_value ((48 + n) ∷ []) (omega arith) (omega arith) (λ e. absurd (omega arith)) (rw (digit n one)) (omega arith))
    go (no one) (yes two) =
        subst⁻¹ (λ (s : List ℕ). Digits s n) (two_digits n (omega arith) two 18)
        (digits_value ((48 + n / 10) ∷ (48 + n % 10) ∷ []) (omega arith) (omega arith) (λ e. absurd (omega arith)) (rw (digit (n / 10) (omega arith), digit (n % 10) (omega arith))) (omega arith))
    go (no one) (no two) =
        subst⁻¹ (λ (s : List ℕ). Digits s n) (three_digits n (omega arith) most 17)
        (digits_value ((48 + n / 10 / 10) ∷ (48 + n / 10 % 10) ∷ (48 + n % 10) ∷ []) (omega arith) (omega arith) (λ e. absurd (omega arith)) (rw (digit (n / 10 / 10) (omega arith), digit (n / 10 % 10) (omega arith), digit (n % 10) (omega arith))) (omega arith))

-- ---- a field that is read as a number is that number in decimal

-- a field with a number has the form of one
number_form : (s : List ℕ) → (number_of s ≡ 0 → ⊥) → is_number s ≡ true
unfolding number_of
number_form s some = go (is_number s) refl
  where
    go : (b : Bool) → is_number s ≡ b → b ≡ true
    go true is = refl
    go false is = absurd (some (ap (λ (b : Bool). cond b (value_of 0 s) 0) is))

-- a digit and those after it
digit_range : (byte : ℕ) (rest : List ℕ) → every (between 48 57) (byte ∷ rest) ≡ true → (48 ≤ byte) × (byte ≤ 57) × (every (between 48 57) rest ≡ true)
unfolding every
digit_range byte rest form =
    let parts = (and-eq-true_iff (between 48 57 byte) (every (between 48 57) rest)).0 form in
    let range = in_range 48 57 byte parts.0 in
    (range.0, range.1, parts.1)

-- one to three digits, the first of them not 0
digits_back : (s : List ℕ) → 1 ≤ length s → length s ≤ 3 → (get_or s 0 0 ≡ 48 → ⊥) → every (between 48 57) s ≡ true → (s ≡ decimal (value_of 0 s)) × (value_of 0 s < 1000)
unfolding decimal value_of
digits_back [] least most lead form = absurd (omega arith)
digits_back (a ∷ []) least most lead form =
    let x = digit_range a [] form in
    (sym (one_digit 19 (0 + (a - 48)) (omega arith) ∙ ap (λ (k : ℕ). k ∷ []) (omega arith)), omega arith)
digits_back (a ∷ b ∷ []) least most lead form =
    let x = digit_range a (b ∷ []) form in
    let y = digit_range b [] x.2 in
    let n = (0 + (a - 48)) * 10 + (b - 48) in
    let first : 48 + n / 10 ≡ a = omega arith in
    let second : 48 + n % 10 ≡ b = omega arith in
    (sym (two_digits n (omega arith) (omega arith) 18 ∙ rw (first, second)), omega arith)
digits_back (a ∷ b ∷ c ∷ []) least most lead form =
    let x = digit_range a (b ∷ c ∷ []) form in
    let y = digit_range b (c ∷ []) x.2 in
    let z = digit_range c [] y.2 in
    let n = ((0 + (a - 48)) * 10 + (b - 48)) * 10 + (c - 48) in
    let first : 48 + n / 10 / 10 ≡ a = omega arith in
    let second : 48 + n / 10 % 10 ≡ b = omega arith in
    let third : 48 + n % 10 ≡ c = omega arith in
    (sym (three_digits n (omega arith) (omega arith) 17 ∙ rw (first, second, third)), omega arith)
digits_back (a ∷ b ∷ c ∷ d ∷ more) least most lead form = absurd (omega arith)

-- A field that is read as a number is the number in decimal, below 1,000.
pub digits_number : (s : List ℕ) → (number_of s ≡ 0 → ⊥) → (s ≡ decimal (number_of s)) × (number_of s < 1000)
unfolding number_of is_number
digits_number s some =
    let form = number_form s some in
    let digits = (and-eq-true_iff ((leb 1 (length s) && leb (length s) 3) && not (eqb (get_or s 0 0) 48)) (every (between 48 57) s)).0 form in
    let lead = (and-eq-true_iff (leb 1 (length s) && leb (length s) 3) (not (eqb (get_or s 0 0) 48))).0 digits.0 in
    let long = (and-eq-true_iff (leb 1 (length s)) (leb (length s) 3)).0 lead.0 in
    rw form
    (digits_back s (leb-true 1 (length s) long.0) (leb-true (length s) 3 long.1) (eqb-false (get_or s 0 0) 48 (not-true (eqb (get_or s 0 0) 48) lead.1)) digits.1)

-- Digits have no byte below `0` in them.
pub digits_free : (mark : ℕ) → mark < 48 → (s : List ℕ) → every (between 48 57) s ≡ true → free mark s ≡ true
unfolding every free
digits_free mark low [] form = refl
digits_free mark low (byte ∷ s) form =
    let x = digit_range byte s form in
    ap₂ (λ (a b : Bool). not a && b) (ne_eqb byte mark (λ e. omega arith)) (digits_free mark low s x.2)
