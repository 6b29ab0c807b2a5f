-- Names packed and found, from what a reader finds word by word; and that packing loses nothing.
use Rattle.std.specs.Prelude.{ℕ, zero, suc, ◌+◌, ◌-◌, ◌*◌, ◌/◌, ◌^◌, ◌≤◌, ◌<◌, Bool, true, false, cond, ◌&&◌, List, [], ◌∷◌, ◌++◌, ◌≡◌, refl, eqb, leb, length, get_or, take, drop, replicate}
use Rattle.std.proofs.Common.{zero-le, sym, ap, ap₂, ◌∙◌, leb-true, eqb-true, lit≤, drop_of_length-le, length-append, length-drop, take-append-drop, pow-add, drop-cons, drop-drop, get_or-drop, take_all, add-zero, zero-add, div-one, pow-suc, w64, arith}
use Rattle.std.proofs.Math.Bool.{and-eq-true_iff}
use Rattle.std.proofs.Math.ListN.{get_or-eq_default}
use Rattle.std.proofs.Math.Nat.{add-mul-div_left, div-div-eq-div-mul, div-eq_of_lt, pow-le-pow_right, zero-div}
use Rattle.std.specs.Int.{from_le_bytes}
use Rattle.std.proofs.lemmas.List.{drop-replicate}
use Rattle.tables.specs.declared.Name.{Name}
use Rattle.text.specs.Eights.{eight-bytes}
use Rattle.text.specs.Forms.{every, name_byte, is_name}
use Rattle.text.specs.FormLaws.{name_byte_range, every_take, every_drop}
use Rattle.tables.specs.Names.{packed, place_of, name_at, row_of, rows, same_name, value}

-- ---- packing eight bytes, the last first

-- a byte in front of what is packed already
pub value-next : (s : List ℕ) (i : ℕ) → i < length s → value (drop i s) ≡ value (drop (suc i) s) * 256 + get_or s i 0
unfolding value
value-next s i h = rw (drop-cons s i 0 h) (omega arith)

pub value_end : (s : List ℕ) (i : ℕ) → length s ≤ i → value (drop i s) ≡ 0
unfolding value
value_end s i h = rw (drop_of_length-le s h)

-- with i of eight bytes to go the number is below 256 ^ (8 - i), and fits a word
pub word_bound : (n i byte : ℕ) → 0 < i → i ≤ 8 → n < 256 ^ (8 - i) → byte < 256 → n * 256 + byte < 256 ^ (8 - (i - 1))
word_bound n i byte some most below small =
    let one : 8 - (i - 1) ≡ suc (8 - i) = omega arith in
    rw (one, pow-suc 256 (8 - i)) (omega arith)

pub word_fits : (i : ℕ) → 256 ^ (8 - i) ≤ 2 ^ 64
word_fits i =
    let few : 8 - i ≤ 8 = omega arith in
    pow-le-pow_right (lit≤ tt) few

pub word_next : (s : List ℕ) (n i : ℕ) → 0 < i → i ≤ length s → n ≡ value (drop i s) → n * 256 + get_or s (i - 1) 0 ≡ value (drop (i - 1) s)
word_next s n i some most same =
    let on : suc (i - 1) ≡ i = omega arith in
    let here : i - 1 < length s = omega arith in
    sym (value-next s (i - 1) here ∙ ap (λ (k : ℕ). value (drop k s) * 256 + get_or s (i - 1) 0) on ∙ ap (λ (v : ℕ). v * 256 + get_or s (i - 1) 0) (sym same))

-- ---- packing eight bytes at once

pub value-eight : (s : List ℕ) (at : ℕ) → at + 8 ≤ length s
    → get_or s at 0 + 256 * get_or s (at + 1) 0 + 65536 * get_or s (at + 2) 0 + 16777216 * get_or s (at + 3) 0 + 4294967296 * get_or s (at + 4) 0 + 1099511627776 * get_or s (at + 5) 0 + 281474976710656 * get_or s (at + 6) 0 + 72057594037927936 * get_or s (at + 7) 0
    ≡ value (take 8 (drop at s))
unfolding value
value-eight s at h = rw (eight-bytes s at h) (omega arith)

-- which is how the library has it
value_le : (s : List ℕ) → length s ≡ 8 → from_le_bytes w64 s ≡ value s
value_le s all = omega (arith, value-eight s 0 (omega arith), ap value (take_all 8 s (omega arith)))

-- zeros past the bytes do not count
value_zeros : (count : ℕ) → value (replicate count 0) ≡ 0
unfolding value
value_zeros zero = refl
value_zeros (suc count) = omega (arith, value_zeros count)

value_padded : (s : List ℕ) (count : ℕ) → value (s ++ replicate count 0) ≡ value s
unfolding value
value_padded [] count = value_zeros count
value_padded (byte ∷ rest) count = ap (λ (n : ℕ). byte + 256 * n) (value_padded rest count)

pub value_short : (s : List ℕ) → length s ≤ 8 → from_le_bytes w64 (s ++ drop (length s) (replicate 8 0)) ≡ value s
value_short s few =
    value_le (s ++ drop (length s) (replicate 8 0)) (omega (arith, length-append s (drop (length s) (replicate 8 0)), length-drop (length s) (replicate {A = ℕ} 8 0)))
    ∙ ap (λ (zeros : List ℕ). value (s ++ zeros)) (drop-replicate (length s) 8 0) ∙ value_padded s (8 - length s)

-- a number without its lowest bytes is that of the other bytes
value_shifted : (n : ℕ) (s : List ℕ) → ((i : ℕ) → get_or s i 0 < 256) → value s / 2 ^ (8 * n) ≡ value (drop n s)
unfolding value
value_shifted zero s small = div-one (value s)
value_shifted (suc n) [] small = zero-div (2 ^ (8 * suc n))
value_shifted (suc n) (byte ∷ s) small =
    let wide : 8 * suc n ≡ 8 + 8 * n = omega arith in
    let first : (byte + 256 * value s) / 256 ≡ value s = add-mul-div_left byte (value s) (lit≤ tt) ∙ ap (λ (k : ℕ). k + value s) (div-eq_of_lt (small 0)) ∙ zero-add (value s) in
    rw (wide, pow-add 2 8 (8 * n), ← div-div-eq-div-mul (byte + 256 * value s) 256 (2 ^ (8 * n)), first)
    (value_shifted n s (λ i. small (suc i)))

-- the last bytes of a field that has eight, by those eight
pub value_last : (s : List ℕ) (at : ℕ) → ((i : ℕ) → get_or s i 0 < 256) → 8 ≤ length s → length s < at + 8 → at < length s
    → value (take 8 (drop (length s - 8) s)) / 2 ^ (8 * (at + 8 - length s)) ≡ value (take 8 (drop at s))
value_last s at small some last here =
    let start : length s - 8 + (at + 8 - length s) ≡ at = omega arith in
    rw (take_all 8 (drop (length s - 8) s) (omega (arith, length-drop (length s - 8) s)), take_all 8 (drop at s) (omega (arith, length-drop at s)))
    (value_shifted (at + 8 - length s) (drop (length s - 8) s) (λ i. rw get_or-drop (small (length s - 8 + i))) ∙ ap value (drop-drop (at + 8 - length s) (length s - 8) s ∙ ap (λ (k : ℕ). drop k s) start))

-- ---- going through a table one name at a time

pub place-next : (table : List ℕ) (count place : ℕ) (name : Name) → place < count
    → place_of (rows (count - place) (drop (4 * place) table)) name
    ≡ cond (same_name (row_of (drop (4 * place) table)) name) 0 (suc (place_of (rows (count - (place + 1)) (drop (4 * (place + 1)) table)) name))
unfolding rows place_of
place-next table count place name h =
    let more : count - place ≡ suc (count - (place + 1)) = omega arith in
    let on : 4 * place + 4 ≡ 4 * (place + 1) = omega arith in
    rw (more, ← on, ← drop-drop 4 (4 * place) table)

-- the name at this place, the name further on, the name nowhere
pub place_found : (table : List ℕ) (count place : ℕ) (name : Name) → place < count
    → place_of (rows count table) name ≡ place + place_of (rows (count - place) (drop (4 * place) table)) name
    → same_name (row_of (drop (4 * place) table)) name ≡ true → place ≡ place_of (rows count table) name
place_found table count place name h passed same =
    sym (passed ∙ ap (λ (n : ℕ). place + n) (place-next table count place name h ∙ ap (λ (b : Bool). cond b 0 (suc (place_of (rows (count - (place + 1)) (drop (4 * (place + 1)) table)) name))) same) ∙ add-zero place)

pub place_passed : (table : List ℕ) (count place : ℕ) (name : Name) → place < count
    → place_of (rows count table) name ≡ place + place_of (rows (count - place) (drop (4 * place) table)) name
    → same_name (row_of (drop (4 * place) table)) name ≡ false
    → place_of (rows count table) name ≡ place + 1 + place_of (rows (count - (place + 1)) (drop (4 * (place + 1)) table)) name
place_passed table count place name h passed other =
    let more = place-next table count place name h ∙ ap (λ (b : Bool). cond b 0 (suc (place_of (rows (count - (place + 1)) (drop (4 * (place + 1)) table)) name))) other in
    omega (arith, passed, more)

pub place_none : (table : List ℕ) (count place : ℕ) (name : Name) → count ≤ place
    → place_of (rows count table) name ≡ place + place_of (rows (count - place) (drop (4 * place) table)) name → place ≡ place_of (rows count table) name
unfolding rows place_of
place_none table count place name h passed =
    let none : count - place ≡ 0 = omega arith in
    sym (passed ∙ ap (λ (k : ℕ). place + place_of (rows k (drop (4 * place) table)) name) none ∙ add-zero place)

-- ---- a name loses nothing by packing

-- Bytes that are not 0 are told by their number.
pub value_one_to_one : (s t : List ℕ) → every name_byte s ≡ true → every name_byte t ≡ true → value s ≡ value t → s ≡ t
unfolding value every
value_one_to_one [] [] hs ht same = refl
value_one_to_one [] (c ∷ t) hs ht same = absurd (omega (arith, name_byte_range c ((and-eq-true_iff (name_byte c) (every name_byte t)).0 ht).0))
value_one_to_one (b ∷ s) [] hs ht same = absurd (omega (arith, name_byte_range b ((and-eq-true_iff (name_byte b) (every name_byte s)).0 hs).0))
value_one_to_one (b ∷ s) (c ∷ t) hs ht same =
    let here = (and-eq-true_iff (name_byte b) (every name_byte s)).0 hs in
    let there = (and-eq-true_iff (name_byte c) (every name_byte t)).0 ht in
    let first : b ≡ c = omega (arith, name_byte_range b here.0, name_byte_range c there.0) in
    let rest : value s ≡ value t = omega (arith, name_byte_range b here.0, name_byte_range c there.0) in
    ap₂ ◌∷◌ first (value_one_to_one s t here.1 there.1 rest)

-- two lists with the same first elements and the same rest are the same
rejoin {ℓ} : {A : Type ℓ} (n : ℕ) (s t : List A) → take n s ≡ take n t → drop n s ≡ drop n t → s ≡ t
rejoin n s t first rest = sym (take-append-drop n s) ∙ ap₂ ◌++◌ first rest ∙ take-append-drop n t

-- eight bytes of two names
eight : (s t : List ℕ) (at : ℕ) → every name_byte s ≡ true → every name_byte t ≡ true → value (take 8 (drop at s)) ≡ value (take 8 (drop at t)) → take 8 (drop at s) ≡ take 8 (drop at t)
eight s t at hs ht same =
    value_one_to_one (take 8 (drop at s)) (take 8 (drop at t)) (every_take name_byte 8 (drop at s) (every_drop name_byte at s hs))
    (every_take name_byte 8 (drop at t) (every_drop name_byte at t ht)) same

-- Two names with the same words are the same.
pub packed_one_to_one : (s t : List ℕ) → is_name s ≡ true → is_name t ≡ true → packed s ≡ packed t → s ≡ t
unfolding packed is_name
packed_one_to_one s t hs ht same =
    let name = (and-eq-true_iff (leb 1 (length s) && leb (length s) 32) (every name_byte s)).0 hs in
    let other = (and-eq-true_iff (leb 1 (length t) && leb (length t) 32) (every name_byte t)).0 ht in
    let most = leb-true (length s) 32 ((and-eq-true_iff (leb 1 (length s)) (leb (length s) 32)).0 name.0).1 in
    let most' = leb-true (length t) 32 ((and-eq-true_iff (leb 1 (length t)) (leb (length t) 32)).0 other.0).1 in
    rejoin 8 s t (eight s t 0 name.1 other.1 (ap (λ (n : Name). n.first) same))
    (rejoin 8 (drop 8 s) (drop 8 t) (eight s t 8 name.1 other.1 (ap (λ (n : Name). n.second) same))
    (rw (drop-drop 8 8 s, drop-drop 8 8 t)
    (rejoin 8 (drop 16 s) (drop 16 t) (eight s t 16 name.1 other.1 (ap (λ (n : Name). n.third) same))
    (rw (drop-drop 8 16 s, drop-drop 8 16 t)
    (rejoin 8 (drop 24 s) (drop 24 t) (eight s t 24 name.1 other.1 (ap (λ (n : Name). n.fourth) same))
    (rw (drop-drop 8 24 s, drop-drop 8 24 t) (drop_of_length-le s most ∙ sym (drop_of_length-le t most'))))))))

-- ---- how many names a table has

pub rows_length : (count : ℕ) (table : List ℕ) → length (rows count table) ≡ count
unfolding rows
rows_length zero table = refl
rows_length (suc count) table = ap suc (rows_length count (drop 4 table))

-- ---- a place tells the name

same_words : (m n : Name) → same_name m n ≡ true → m ≡ n
unfolding same_name
same_words m n h =
    let three = (and-eq-true_iff (eqb m.first n.first && eqb m.second n.second && eqb m.third n.third) (eqb m.fourth n.fourth)).0 h in
    let two = (and-eq-true_iff (eqb m.first n.first && eqb m.second n.second) (eqb m.third n.third)).0 three.0 in
    let one = (and-eq-true_iff (eqb m.first n.first) (eqb m.second n.second)).0 two.0 in
    λ i. record {
      first = eqb-true m.first n.first one.0 i;
      second = eqb-true m.second n.second one.1 i;
      third = eqb-true m.third n.third two.1 i;
      fourth = eqb-true m.fourth n.fourth three.1 i;
    }

-- two names at one place of a table are the same
pub place_one_to_one : (names : List Name) (m n : Name) → place_of names m ≡ place_of names n → place_of names m < length names → m ≡ n
unfolding place_of
place_one_to_one [] m n same here = absurd (omega arith)
place_one_to_one (first ∷ rest) m n same here = go (place_one_to_one rest m n) (same_name first m) (same_name first n) refl refl same here
  where
    go : (place_of rest m ≡ place_of rest n → place_of rest m < length rest → m ≡ n) → (b c : Bool) → same_name first m ≡ b → same_name first n ≡ c → cond b 0 (suc (place_of rest m)) ≡ cond c 0 (suc (place_of rest n)) → cond b 0 (suc (place_of rest m)) < suc (length rest) → m ≡ n
    go below true true p q same here = sym (same_words first m p) ∙ same_words first n q
    go below true false p q same here = absurd (omega arith)
    go below false true p q same here = absurd (omega arith)
    go below false false p q same here =
        let on : place_of rest m ≡ place_of rest n = omega arith in
        let less : place_of rest m < length rest = omega arith in
        below on less

-- a place is at most the number of names
pub place_most : (names : List Name) (name : Name) → place_of names name ≤ length names
unfolding place_of
place_most [] name = zero-le
place_most (first ∷ rest) name = go (same_name first name) (place_most rest name)
  where
    go : (b : Bool) → place_of rest name ≤ length rest → cond b 0 (suc (place_of rest name)) ≤ suc (length rest)
    go true below = zero-le
    go false below = omega arith

-- the name in a table's row, and no name past its rows
pub name_row_lem : (count place : ℕ) (table : List ℕ) → place < count → row_of (drop (4 * place) table) ≡ name_at (rows count table) place
unfolding name_at rows
name_row_lem zero place table here = absurd (omega arith)
name_row_lem (suc count) zero table here = refl
name_row_lem (suc count) (suc place) table here =
    let on : 4 + 4 * place ≡ 4 * suc place = omega arith in
    ap row_of (ap (λ (k : ℕ). drop k table) (sym on) ∙ sym (drop-drop (4 * place) 4 table)) ∙ name_row_lem count place (drop 4 table) (omega arith)

pub name_none : (count place : ℕ) (table : List ℕ) → count ≤ place → packed [] ≡ name_at (rows count table) place
unfolding name_at
name_none count place table past = sym (get_or-eq_default (rows count table) (packed []) (omega (arith, rows_length count table)))
