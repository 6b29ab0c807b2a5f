-- Laws of spelling: the bytes of a name and of a number, one by one, and how many there are.
use Rattle.std.specs.Prelude.{ℕ, zero, suc, ◌+◌, ◌-◌, ◌*◌, ◌/◌, ◌%◌, ◌^◌, ◌≤◌, ◌<◌, Bool, true, false, cond, ◌&&◌, List, [], ◌∷◌, ◌++◌, ◌≡◌, refl, eqb, leb, ltb, length, get_or, take, drop}
use Rattle.std.proofs.Common.{zero-le, append_assoc, sym, ap, ap₂, ◌∙◌, ne_eqb, leb-true, lt-ltb, le-ltb, lit≤, length-append, length-take, length-drop, take-append-drop, drop-drop, drop-cons, take_all, pow-suc, sub-one, arith}
use Rattle.std.proofs.Math.Bool.{and-eq-true_iff}
use Rattle.std.proofs.Math.Decide.{dec_lt}
use Rattle.std.proofs.Math.Nat.{one-le-pow, pow-le-pow_right}
use Rattle.io.specs.Digits.{hex_digit_ascii, last_digits, IsDigitCount}
use Rattle.tables.specs.declared.Name.{Name}
use Rattle.text.specs.Forms.{every, name_byte, is_name}
use Rattle.text.specs.FormLaws.{name_byte_range, every_take, every_drop}
use Rattle.tables.specs.Names.{value, packed}
use Rattle.writing.specs.Written.{letters, spelled, digits_of, decimal}

-- ---- the bytes of a word

-- a word that is not 0 has its lowest byte first
pub letters-next : (most word : ℕ) → 0 < word → letters (suc most) word ≡ (word % 256) ∷ letters most (word / 256)
unfolding letters
letters-next most word some = rw (ne_eqb word 0 (λ same. omega arith))

-- a word of 0 has none
pub letters_end : (most : ℕ) → letters most 0 ≡ []
unfolding letters
letters_end zero = refl
letters_end (suc most) = refl

-- never more than asked for
pub letters_most : (most word : ℕ) → length (letters most word) ≤ most
unfolding letters
letters_most zero word = zero-le
letters_most (suc most) word = go (eqb word 0) (letters_most most (word / 256))
  where
    go : (b : Bool) → length (letters most (word / 256)) ≤ most → length (cond b [] ((word % 256) ∷ letters most (word / 256))) ≤ suc most
    go true below = zero-le
    go false below = omega arith

-- Where a walk over the bytes of a word stands: how many are passed, and the rest of the word.
pub record Passed (word count rest : ℕ) : Type 0 where
  pub few : count ≤ 8
  pub below : rest < 256 ^ (8 - count)
  pub counted : count ≤ length (letters 8 word)
  pub left : drop count (letters 8 word) ≡ letters (8 - count) rest

-- none is passed at first
pub passed_none : (word : ℕ) → word < 2 ^ 64 → Passed word 0 word
passed_none word fits = record { few = zero-le; below = fits; counted = zero-le; left = refl }

-- a rest that is not 0: fewer than eight are passed
pub passed_some : {word count rest : ℕ} → Passed word count rest → 0 < rest → count < 8
passed_some {word} {count} {rest} p some = go (8 - count) refl p.below
  where
    go : (k : ℕ) → 8 - count ≡ k → rest < 256 ^ k → count < 8
    go zero e small = absurd (omega arith)
    go (suc k) e small = omega arith

-- so that one more is to come, the rest's lowest byte
one_more : (count : ℕ) → count < 8 → 8 - count ≡ suc (8 - (count + 1))
one_more count less = omega arith

next : {word count rest : ℕ} → Passed word count rest → 0 < rest → drop count (letters 8 word) ≡ (rest % 256) ∷ letters (8 - (count + 1)) (rest / 256)
next {word} {count} {rest} p some =
    p.left ∙ ap (λ (k : ℕ). letters k rest) (one_more count (passed_some p some)) ∙ letters-next (8 - (count + 1)) rest some

-- the byte that stands at the place, and the walk past it
pub passed_here : {word count rest : ℕ} → Passed word count rest → 0 < rest → count < length (letters 8 word)
passed_here {word} {count} p some = omega (arith, length-drop count (letters 8 word), ap length (next p some))

pub passed_byte : {word count rest : ℕ} → Passed word count rest → 0 < rest → get_or (letters 8 word) count 0 ≡ rest % 256
passed_byte {word} {count} p some =
    ap (λ (l : List ℕ). get_or l 0 0) (sym (drop-cons (letters 8 word) count 0 (passed_here p some)) ∙ next p some)

pub passed_next : {word count rest : ℕ} → Passed word count rest → 0 < rest → Passed word (count + 1) (rest / 256)
passed_next {word} {count} {rest} p some =
    let wide : 256 ^ (8 - count) ≡ 256 ^ (8 - (count + 1)) * 256 = ap (λ (k : ℕ). 256 ^ k) (one_more count (passed_some p some)) ∙ pow-suc 256 (8 - (count + 1)) in
    record {
      few = omega (arith, passed_some p some);
      below = omega (arith, p.below);
      counted = omega (arith, passed_here p some);
      left = sym (drop-drop 1 count (letters 8 word)) ∙ ap (drop 1) (next p some);
    }

-- all are passed where the rest is 0
pub passed_all : {word count rest : ℕ} → Passed word count rest → rest ≤ 0 → count ≡ length (letters 8 word)
passed_all {word} {count} {rest} p none =
    let end : rest ≡ 0 = omega arith in
    let gone = p.left ∙ ap (letters (8 - count)) end ∙ letters_end (8 - count) in
    omega (arith, length-drop count (letters 8 word), ap length gone, p.counted)

-- ---- the bytes of a name

-- the bytes of its words
pub spelled-parts : (name : Name) → length (spelled name) ≡ length (letters 8 name.first) + length (letters 8 name.second) + length (letters 8 name.third) + length (letters 8 name.fourth)
unfolding spelled
spelled-parts name = simp length-append (omega arith)

-- a name has at most 32 bytes
pub spelled_length : (name : Name) → length (spelled name) ≤ 32
spelled_length name =
    omega (arith, spelled-parts name, letters_most 8 name.first, letters_most 8 name.second, letters_most 8 name.third, letters_most 8 name.fourth)

-- ---- a name packed is spelled as it was

-- a word's bytes are those packed into it, none of them 0
letters-value : (most : ℕ) (s : List ℕ) → every name_byte s ≡ true → length s ≤ most → letters most (value s) ≡ s
unfolding value every
letters-value most [] bytes few = letters_end most
letters-value zero (byte ∷ s) bytes few = absurd (omega arith)
letters-value (suc most) (byte ∷ s) bytes few =
    let parts = (and-eq-true_iff (name_byte byte) (every name_byte s)).0 bytes in
    let range = name_byte_range byte parts.0 in
    let low : (byte + 256 * value s) % 256 ≡ byte = omega arith in
    let high : (byte + 256 * value s) / 256 ≡ value s = omega arith in
    letters-next most (byte + 256 * value s) (omega arith)
    ∙ ap₂ ◌∷◌ low (ap (letters most) high ∙ letters-value most s parts.1 (omega arith))

-- the bytes from a place on that one word holds
eight : (s : List ℕ) (at : ℕ) → every name_byte s ≡ true → letters 8 (value (take 8 (drop at s))) ≡ take 8 (drop at s)
eight s at bytes =
    letters-value 8 (take 8 (drop at s)) (every_take name_byte 8 (drop at s) (every_drop name_byte at s bytes)) (omega (arith, length-take 8 (drop at s)))

-- eight bytes and those after them
onward : (s : List ℕ) (at : ℕ) → take 8 (drop at s) ++ drop (at + 8) s ≡ drop at s
onward s at = rw (← drop-drop 8 at s) (take-append-drop 8 (drop at s))

-- Spelling undoes packing.
pub spelled-packed : (s : List ℕ) → is_name s ≡ true → spelled (packed s) ≡ s
unfolding spelled packed is_name
spelled-packed s name =
    let parts = (and-eq-true_iff (leb 1 (length s) && leb (length s) 32) (every name_byte s)).0 name in
    let most = leb-true (length s) 32 ((and-eq-true_iff (leb 1 (length s)) (leb (length s) 32)).0 parts.0).1 in
    let last : take 8 (drop 24 s) ≡ drop 24 s = take_all 8 (drop 24 s) (omega (arith, length-drop 24 s)) in
    rw (eight s 0 parts.1, eight s 8 parts.1, eight s 16 parts.1, eight s 24 parts.1, last) (simp append_assoc (rw (onward s 16, onward s 8) (onward s 0)))

-- ---- the digits of a number

-- one digit more than are asked for at most
digits_most : (more n : ℕ) → length (digits_of more n) ≤ suc more
unfolding digits_of
digits_most zero n = lit≤ tt
digits_most (suc more) n = go (ltb n 10) (digits_most more (n / 10))
  where
    go : (b : Bool) → length (digits_of more (n / 10)) ≤ suc more → length (cond b ((48 + n) ∷ []) (digits_of more (n / 10) ++ ((48 + n % 10) ∷ []))) ≤ suc (suc more)
    go true below = omega arith
    go false below = omega (arith, length-append (digits_of more (n / 10)) ((48 + n % 10) ∷ []))

-- a number has at most 20 digits
pub decimal_length : (n : ℕ) → length (decimal n) ≤ 20
unfolding decimal
decimal_length n = digits_most 19 n

-- the last digit, a number of one digit, and a number of more
last_digit : (n : ℕ) → hex_digit_ascii (n % 10) ≡ 48 + n % 10
last_digit n = rw (lt-ltb (n % 10) 10 (omega arith))

one_digit : (more n : ℕ) → n < 10 → (48 + n % 10) ∷ [] ≡ digits_of more n
unfolding digits_of
one_digit zero n small = refl
one_digit (suc more) n small =
    let same : n % 10 ≡ n = omega arith in
    rw (lt-ltb n 10 small, same)

more_digits : (more n : ℕ) → 10 ≤ n → digits_of more (n / 10) ++ ((48 + n % 10) ∷ []) ≡ digits_of (suc more) n
unfolding digits_of
more_digits more n large = rw (le-ltb n 10 large)

-- the fewest digits that hold a number are its digits without a leading zero
fewest_digits : (k more n : ℕ) → k ≤ more → n < 10 ^ suc k → (0 < k → 10 ^ k ≤ n) → last_digits 10 (suc k) n ≡ digits_of more n
fewest_digits zero more n few below least = ap (λ (d : ℕ). d ∷ []) (last_digit n) ∙ one_digit more n (omega arith)
fewest_digits (suc k) zero n few below least = absurd (omega arith)
fewest_digits (suc k) (suc more) n few below least =
    let wide = pow-suc 10 (suc k) in
    let narrow = pow-suc 10 k in
    let some = one-le-pow k 10 (lit≤ tt) in
    let most = least (omega arith) in
    ap₂ (λ (l : List ℕ) (d : ℕ). l ++ (d ∷ [])) (fewest_digits k more (n / 10) (omega arith) (omega arith) (λ further. omega arith)) (last_digit n)
    ∙ more_digits more n (omega arith)

-- a 64-bit number has at most 20 digits
few_digits : (k n : ℕ) → n < 2 ^ 64 → (0 < k → 10 ^ k ≤ n) → k ≤ 19
few_digits k n word least = go (dec_lt 19 k)
  where
    go : Dec (19 < k) → k ≤ 19
    go (yes many) =
        let wide : 10 ^ 20 ≤ 10 ^ k = pow-le-pow_right (lit≤ tt) many in
        let most = least (omega arith) in
        absurd (omega arith)
    go (no few) = omega arith

-- as the kit writes them
pub decimal_digits : (n count : ℕ) → n < 2 ^ 64 → IsDigitCount 10 1 n count → last_digits 10 count n ≡ decimal n
unfolding decimal
decimal_digits n zero word fewest = absurd (omega (arith, fewest.0))
decimal_digits n (suc k) word fewest =
    let least : 0 < k → 10 ^ k ≤ n = λ some. rw sub-one at (fewest.2 (omega arith)) in
    fewest_digits k 19 n (few_digits k n word least) fewest.1 least
