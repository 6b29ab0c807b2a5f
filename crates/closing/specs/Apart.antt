-- The roles of a set that are not in another: joined to that other they give both, and where there are none it has not grown.
use Rattle.std.specs.Prelude.{ℕ, zero, suc, ◌+◌, ◌^◌, ◌<◌, Bool, true, false, ◌&&◌, ◌||◌, ◌≡◌, refl}
use Rattle.std.proofs.lemmas.Bool.{false≢true}
use Rattle.std.proofs.Common.{sym, ap, ◌∙◌, lit<, pow-suc, arith}
use Rattle.std.specs.Int.Bits.{bit_and, bit_or, bit_xor, and_self, and_zero_r, xor_self, xor_zero_r}
use Rattle.roles.specs.declared.RoleSet.{RoleSet}
use Rattle.roles.specs.Sets.{bit, empty_set, union_of, meet_of, less_of, apart_of, same_set}
use Rattle.roles.specs.Words.{differs, bit_or_lem, bit_and_lem, bit_xor_lem, same_bits}
use Rattle.roles.specs.MemberLaws.{same_equal, equal_same, union_empty}

-- ---- words

-- a number is below its power of two
below_power : (n : ℕ) → n < 2 ^ n
below_power zero = lit< tt
below_power (suc n) = rw (pow-suc 2 n) (omega (arith, below_power n))

-- words with the same bits are one
all_bits : (a b : ℕ) → ((k : ℕ) → bit a k ≡ bit b k) → a ≡ b
all_bits a b same = same_bits (a + b) a b (omega (arith, below_power (a + b))) (omega (arith, below_power (a + b))) (λ k h. same k)

-- a word joined by the bits of another that it does not have is both
or_apart : (a b : ℕ) → bit_or a (bit_xor b (bit_and b a)) ≡ bit_or a b
or_apart a b = all_bits _ _ (λ k. bit_or_lem a (bit_xor b (bit_and b a)) k ∙ ap (λ (x : Bool). bit a k || x) (apart k) ∙ go (bit a k) (bit b k) ∙ sym (bit_or_lem a b k))
  where
    apart : (k : ℕ) → bit (bit_xor b (bit_and b a)) k ≡ differs (bit b k) (bit b k && bit a k)
    apart k = bit_xor_lem b (bit_and b a) k ∙ ap (differs (bit b k)) (bit_and_lem b a k)

    go : (x y : Bool) → (x || differs y (y && x)) ≡ (x || y)
    go true y = refl
    go false true = refl
    go false false = refl

-- ---- sets

-- a set joined by the roles of another that it does not have is both
join_apart : (s t : RoleSet) → union_of s (apart_of t s) ≡ union_of s t
unfolding union_of apart_of less_of meet_of
join_apart s t = λ i. record { low = or_apart s.low t.low i; high = or_apart s.high t.high i }

-- a set has no role that is not in it
apart_self : (s : RoleSet) → apart_of s s ≡ empty_set
unfolding apart_of less_of meet_of empty_set
apart_self s = λ i. record { low = none s.low i; high = none s.high i }
  where
    none : (a : ℕ) → bit_xor a (bit_and a a) ≡ 0
    none a = ap (bit_xor a) (and_self a) ∙ xor_self a

-- none of its roles is in the empty set
pub apart_empty : (s : RoleSet) → apart_of s empty_set ≡ s
unfolding apart_of less_of meet_of empty_set
apart_empty s = λ i. record { low = all s.low i; high = all s.high i }
  where
    all : (a : ℕ) → bit_xor a (bit_and a 0) ≡ a
    all a = ap (bit_xor a) (and_zero_r a) ∙ xor_zero_r a

-- a set that has all of another is the same exactly when it has no role that is not in it
pub same_grown : (s t : RoleSet) → union_of s t ≡ t → same_set (apart_of t s) empty_set ≡ same_set s t
same_grown s t grown = go (same_set (apart_of t s) empty_set) (same_set s t) refl refl
  where
    same : same_set (apart_of t s) empty_set ≡ true → same_set s t ≡ true
    same e =
        let equal : t ≡ s = sym grown ∙ sym (join_apart s t) ∙ ap (union_of s) (same_equal (apart_of t s) empty_set e) ∙ union_empty s in
        rw equal (equal_same s)

    none : same_set s t ≡ true → same_set (apart_of t s) empty_set ≡ true
    none e = rw (sym (same_equal s t e), apart_self s) (equal_same empty_set)

    go : (a b : Bool) → same_set (apart_of t s) empty_set ≡ a → same_set s t ≡ b → a ≡ b
    go true b ea eb = sym (same ea) ∙ eb
    go false true ea eb = absurd (false≢true (sym ea ∙ none eb))
    go false false ea eb = refl
