-- What the tests and operations of sets say of their members.
use Rattle.std.specs.Prelude.{ℕ, suc, ◌+◌, ◌-◌, ◌^◌, ◌≤◌, ◌<◌, Bool, true, false, not, ◌&&◌, ◌||◌, ◌⊎◌, ◌≡◌, refl, eqb}
use Rattle.std.proofs.lemmas.Bool.{false≢true, eqb-false}
use Rattle.std.proofs.Math.Bool.{or-true, and-true, and-eq-true_iff}
use Rattle.std.proofs.Common.{inl, inr, sym, ap, ap₂, ◌∙◌, subst, lt-ltb, le-ltb, eqb-true, eq-eqb, ne_eqb, pow_pos, lt_of_le_of_lt, arith}
use Rattle.std.proofs.Math.Path.{subst⁻¹}
use Rattle.std.specs.Int.Bits.{bit_and, bit_or, bit_xor, or_self, or_zero_r}
use Rattle.std.proofs.lemmas.Nat.{or_comm, or_lt, and_le_l}
use Rattle.std.specs.Int.Count.{count_trailing_zeros}
use Rattle.std.proofs.Math.Pow.{pow-lt}
use Rattle.std.proofs.Math.Decide.{dec_lt}
use Rattle.std.proofs.Math.Nat.{add-sub_cancel_left}
use Rattle.roles.specs.declared.RoleSet.{RoleSet}
use Rattle.roles.specs.Sets.{bit, has_role, empty_set, single_of, union_of, meet_of, with_of, less_of, apart_of, without_of, same_set, shares_role, includes, size_of, lowest_role}
use Rattle.roles.specs.Words.{differs, bit_or_lem, bit_and_lem, bit_xor_lem, bit_own, bit-other, bit_zero, same_bits, or_assoc, search_below, trailing_set, trailing_clear, tally, tally_join, tally_same, tally_less, ones_tally}
use Rattle.roles.specs.Members.{Share, Sized, Within, ◌∈◌}

-- ---- what a test of membership says

pub decide : (role : ℕ) (s : RoleSet) → Dec (role ∈ s)
decide role s = go (has_role s role) refl
  where
    go : (b : Bool) → has_role s role ≡ b → Dec (role ∈ s)
    go true e = yes (record { found = e })
    go false e = no (λ h. false≢true (sym e ∙ h.found))

pub absent_test : {role : ℕ} {s : RoleSet} → (role ∈ s → ⊥) → has_role s role ≡ false
absent_test {role} {s} h = go (has_role s role) refl
  where
    go : (b : Bool) → has_role s role ≡ b → has_role s role ≡ false
    go true e = absurd (h (record { found = e }))
    go false e = e

-- ---- where a role stands: in the low word, in the high word, or nowhere

data Place : ℕ → Type 0 where
  low : (k : ℕ) → k < 64 → Place k
  high : (k : ℕ) → k < 64 → Place (64 + k)
  nowhere : (k : ℕ) → 128 ≤ k → Place k

place : (role : ℕ) → Place role
place role = go (dec_lt role 64) (dec_lt role 128)
  where
    go : Dec (role < 64) → Dec (role < 128) → Place role
    go (yes h) d = low role h
    go (no g) (no h) = nowhere role (omega arith)
    go (no g) (yes h) =
        let same : 64 + (role - 64) ≡ role = omega arith in
        subst Place same (high (role - 64) (omega arith))

has_low : (s : RoleSet) (k : ℕ) → k < 64 → has_role s k ≡ bit s.low k
unfolding has_role
has_low s k h = rw (lt-ltb k 64 h)

has_high : (s : RoleSet) (k : ℕ) → k < 64 → has_role s (64 + k) ≡ bit s.high k
unfolding has_role
has_high s k h = rw (le-ltb (64 + k) 64 (omega arith), lt-ltb (64 + k) 128 (omega arith), add-sub_cancel_left 64 k)

has_nowhere : (s : RoleSet) (k : ℕ) → 128 ≤ k → has_role s k ≡ false
unfolding has_role
has_nowhere s k h = rw (le-ltb k 64 (omega arith), le-ltb k 128 h)

-- there is no role above 127
pub below : {role : ℕ} {s : RoleSet} → role ∈ s → role < 128
below {role} {s} h = go (dec_lt role 128)
  where
    go : Dec (role < 128) → role < 128
    go (yes lt) = lt
    go (no ng) = absurd (false≢true (sym (has_nowhere s role (omega arith)) ∙ h.found))

-- ---- an operation that works bit by bit works role by role
module _ (op : ℕ → ℕ → ℕ) (test : Bool → Bool → Bool) (bits : (a b k : ℕ) → bit (op a b) k ≡ test (bit a k) (bit b k)) (none : test false false ≡ false)
    (s t u : RoleSet) (low_word : u.low ≡ op s.low t.low) (high_word_lem : u.high ≡ op s.high t.high) where
  by_roles : (role : ℕ) → has_role u role ≡ test (has_role s role) (has_role t role)
  by_roles role = go (place role)
    where
      go : {r : ℕ} → Place r → has_role u r ≡ test (has_role s r) (has_role t r)
      go (low k h) =
          has_low u k h ∙ ap (λ (w : ℕ). bit w k) low_word ∙ bits s.low t.low k ∙ sym (ap₂ test (has_low s k h) (has_low t k h))
      go (high k h) =
          has_high u k h ∙ ap (λ (w : ℕ). bit w k) high_word_lem ∙ bits s.high t.high k ∙ sym (ap₂ test (has_high s k h) (has_high t k h))
      go (nowhere k h) = has_nowhere u k h ∙ sym none ∙ sym (ap₂ test (has_nowhere s k h) (has_nowhere t k h))

pub has_union : (s t : RoleSet) (role : ℕ) → has_role (union_of s t) role ≡ (has_role s role || has_role t role)
unfolding union_of
has_union s t = by_roles bit_or ◌||◌ bit_or_lem refl s t (union_of s t) refl refl

pub has_meet : (s t : RoleSet) (role : ℕ) → has_role (meet_of s t) role ≡ (has_role s role && has_role t role)
unfolding meet_of
has_meet s t = by_roles bit_and ◌&&◌ bit_and_lem refl s t (meet_of s t) refl refl

has_less : (s t : RoleSet) (role : ℕ) → has_role (less_of s t) role ≡ differs (has_role s role) (has_role t role)
unfolding less_of
has_less s t = by_roles bit_xor differs bit_xor_lem refl s t (less_of s t) refl refl

-- ---- the empty set, and a set of one

-- a word of zeros holds no role
zero_low : (s : RoleSet) → s.low ≡ 0 → (k : ℕ) → k < 64 → has_role s k ≡ false
zero_low s zeros k h = has_low s k h ∙ ap (λ (w : ℕ). bit w k) zeros ∙ bit_zero k

zero_high : (s : RoleSet) → s.high ≡ 0 → (k : ℕ) → k < 64 → has_role s (64 + k) ≡ false
zero_high s zeros k h = has_high s k h ∙ ap (λ (w : ℕ). bit w k) zeros ∙ bit_zero k

pub has_empty : (role : ℕ) → has_role empty_set role ≡ false
unfolding empty_set
has_empty role = go (place role)
  where
    go : {r : ℕ} → Place r → has_role empty_set r ≡ false
    go (low k h) = zero_low empty_set refl k h
    go (high k h) = zero_high empty_set refl k h
    go (nowhere k h) = has_nowhere empty_set k h

pub empty_none : {role : ℕ} → role ∈ empty_set → ⊥
empty_none {role} h = false≢true (sym (has_empty role) ∙ h.found)

single_low : (k : ℕ) → k < 64 → single_of k ≡ record { low = 2 ^ k; high = 0 }
unfolding single_of
single_low k h = rw (lt-ltb k 64 h)

single_high : (k : ℕ) → k < 64 → single_of (64 + k) ≡ record { low = 0; high = 2 ^ k }
unfolding single_of
single_high k h = rw (le-ltb (64 + k) 64 (omega arith), lt-ltb (64 + k) 128 (omega arith), add-sub_cancel_left 64 k)

single_nowhere : (k : ℕ) → 128 ≤ k → single_of k ≡ empty_set
unfolding single_of
single_nowhere k h = rw (le-ltb k 64 (omega arith), le-ltb k 128 h)

pub single_own : {role : ℕ} → role < 128 → role ∈ single_of role
single_own {role} fits = go fits (place role)
  where
    go : {r : ℕ} → r < 128 → Place r → r ∈ single_of r
    go f (low k h) = record { found = rw (single_low k h) (has_low _ k h ∙ bit_own k) }
    go f (high k h) = record { found = rw (single_high k h) (has_high _ k h ∙ bit_own k) }
    go f (nowhere k h) = absurd (omega arith)

-- the only role of a set of one
pub single_only : {role other : ℕ} → other ∈ single_of role → other ≡ role
single_only {role} {other} h = go (place role) (place other) h
  where
    go : {r q : ℕ} → Place r → Place q → q ∈ single_of r → q ≡ r
    go (low j f) (low k g) m = sym (bit-other j k (sym (has_low _ k g) ∙ (rw (single_low j f) at m.found)))
    go (low j f) (high k g) m = absurd (false≢true (sym (zero_high _ refl k g) ∙ (rw (single_low j f) at m.found)))
    go (high j f) (low k g) m = absurd (false≢true (sym (zero_low _ refl k g) ∙ (rw (single_high j f) at m.found)))
    go (high j f) (high k g) m = ap (λ (x : ℕ). 64 + x) (sym (bit-other j k (sym (has_high _ k g) ∙ (rw (single_high j f) at m.found))))
    go (low j f) (nowhere k g) m = absurd (omega (arith, below m))
    go (high j f) (nowhere k g) m = absurd (omega (arith, below m))
    go {q = q} (nowhere j f) p m = absurd (empty_none (subst (λ (s : RoleSet). q ∈ s) (single_nowhere j f) m))

-- ---- union, meeting, with and without a role

or_cases : (a b : Bool) → (a || b) ≡ true → (a ≡ true) ⊎ (b ≡ true)
or_cases true b e = inl refl
or_cases false b e = inr e

pub union_cases : {role : ℕ} (s t : RoleSet) → role ∈ union_of s t → (role ∈ s) ⊎ (role ∈ t)
union_cases {role} s t h = go (or_cases (has_role s role) (has_role t role) (sym (has_union s t role) ∙ h.found))
  where
    go : (has_role s role ≡ true) ⊎ (has_role t role ≡ true) → (role ∈ s) ⊎ (role ∈ t)
    go (inl e) = inl (record { found = e })
    go (inr e) = inr (record { found = e })

pub union_left : {role : ℕ} {s : RoleSet} (t : RoleSet) → role ∈ s → role ∈ union_of s t
union_left {role} {s} t h = record { found = has_union s t role ∙ ap (λ (b : Bool). b || has_role t role) h.found }

pub union_right : {role : ℕ} (s : RoleSet) {t : RoleSet} → role ∈ t → role ∈ union_of s t
union_right {role} s {t} h = record { found = has_union s t role ∙ ap (λ (b : Bool). has_role s role || b) h.found ∙ or-true (has_role s role) }

pub meet_left : {role : ℕ} (s t : RoleSet) → role ∈ meet_of s t → role ∈ s
meet_left {role} s t h = record { found = ((and-eq-true_iff (has_role s role) (has_role t role)).0 (sym (has_meet s t role) ∙ h.found)).0 }

pub meet_right : {role : ℕ} (s t : RoleSet) → role ∈ meet_of s t → role ∈ t
meet_right {role} s t h = record { found = ((and-eq-true_iff (has_role s role) (has_role t role)).0 (sym (has_meet s t role) ∙ h.found)).1 }

pub meet_both : {role : ℕ} {s t : RoleSet} → role ∈ s → role ∈ t → role ∈ meet_of s t
meet_both {role} {s} {t} h g = record { found = has_meet s t role ∙ ap₂ ◌&&◌ h.found g.found }

-- of a set of one, and of a set with one role more
has_single : (own other : ℕ) → own < 128 → has_role (single_of own) other ≡ eqb own other
has_single own other fits = go (eqb own other) refl
  where
    go : (b : Bool) → eqb own other ≡ b → has_role (single_of own) other ≡ eqb own other
    go true e = subst (λ (r : ℕ). has_role (single_of own) r ≡ true) (eqb-true own other e) (single_own fits).found ∙ sym e
    go false e = absent_test (λ m. eqb-false own other e (sym (single_only m))) ∙ sym e

pub has_with : (s : RoleSet) (more role : ℕ) → more < 128 → has_role (with_of s more) role ≡ (has_role s role || eqb more role)
unfolding with_of
has_with s more role fits = has_union s (single_of more) role ∙ ap (λ (b : Bool). has_role s role || b) (has_single more role fits)

pub with_cases : {role : ℕ} (s : RoleSet) (more : ℕ) → role ∈ with_of s more → (role ∈ s) ⊎ (role ≡ more)
unfolding with_of
with_cases {role} s more h = go (union_cases s (single_of more) h)
  where
    go : (role ∈ s) ⊎ (role ∈ single_of more) → (role ∈ s) ⊎ (role ≡ more)
    go (inl old) = inl old
    go (inr new) = inr (single_only new)

pub with_old : {role : ℕ} {s : RoleSet} (more : ℕ) → role ∈ s → role ∈ with_of s more
unfolding with_of
with_old more h = union_left (single_of more) h

pub with_new_lem : {more : ℕ} (s : RoleSet) → more < 128 → more ∈ with_of s more
unfolding with_of
with_new_lem s h = union_right s (single_own h)

pub has_apart : (s t : RoleSet) (role : ℕ) → has_role (apart_of s t) role ≡ (has_role s role && not (has_role t role))
unfolding apart_of
has_apart s t role = has_less s (meet_of s t) role ∙ ap (differs (has_role s role)) (has_meet s t role) ∙ go (has_role s role) (has_role t role)
  where
    go : (a b : Bool) → differs a (a && b) ≡ (a && not b)
    go true b = refl
    go false b = refl

pub has_without : (s : RoleSet) (less role : ℕ) → less < 128 → has_role (without_of s less) role ≡ (has_role s role && not (eqb less role))
unfolding without_of
has_without s less role fits = has_apart s (single_of less) role ∙ ap (λ (b : Bool). has_role s role && not b) (has_single less role fits)

pub without_old : {role : ℕ} (s : RoleSet) (less : ℕ) → role ∈ without_of s less → role ∈ s
unfolding without_of
without_old {role} s less h = record { found = ((and-eq-true_iff (has_role s role) (not (has_role (single_of less) role))).0 (sym (has_apart s (single_of less) role) ∙ h.found)).0 }

pub without_gone : (s : RoleSet) (less : ℕ) → less ∈ without_of s less → ⊥
unfolding without_of
without_gone s less h =
    let own = single_own (below (without_old s less h)) in
    false≢true (sym (ap not own.found) ∙ ((and-eq-true_iff (has_role s less) (not (has_role (single_of less) less))).0 (sym (has_apart s (single_of less) less) ∙ h.found)).1)

pub without_other : {role : ℕ} {s : RoleSet} (less : ℕ) → role ∈ s → (role ≡ less → ⊥) → role ∈ without_of s less
unfolding without_of
without_other {role} {s} less h other = record {
  found = has_apart s (single_of less) role ∙ ap₂ (λ (a b : Bool). a && not b) h.found (absent_test (λ g. other (single_only g)));
}

-- ---- sets with the same members; inclusion and sharing, as the program tests them

same_test : (s t : RoleSet) → Within s t → Within t s → (role : ℕ) → has_role s role ≡ has_role t role
same_test s t st ts role = go (has_role s role) refl
  where
    go : (b : Bool) → has_role s role ≡ b → has_role s role ≡ has_role t role
    go true e = e ∙ sym (st.every (record { found = e })).found
    go false e = e ∙ sym (absent_test (λ h. false≢true (sym e ∙ (ts.every h).found)))

low_bit : (s t : RoleSet) → Within s t → Within t s → (k : ℕ) → k < 64 → bit s.low k ≡ bit t.low k
low_bit s t st ts k h = sym (has_low s k h) ∙ same_test s t st ts k ∙ has_low t k h

high_bit : (s t : RoleSet) → Within s t → Within t s → (k : ℕ) → k < 64 → bit s.high k ≡ bit t.high k
high_bit s t st ts k h = sym (has_high s k h) ∙ same_test s t st ts (64 + k) ∙ has_high t k h

-- two sets of words below 2 ^ 64 with the same members are equal
pub same_members : {s t : RoleSet} → Sized s → Sized t → Within s t → Within t s → s ≡ t
same_members {s} {t} sized sized' st ts =
    λ i. record {
      low = same_bits 64 s.low t.low sized.low sized'.low (low_bit s t st ts) i;
      high = same_bits 64 s.high t.high sized.high sized'.high (high_bit s t st ts) i;
    }

pub empty_sized : Sized empty_set
unfolding empty_set
empty_sized = record { low = pow_pos 64; high = pow_pos 64 }

pub meet_sized : (s t : RoleSet) → Sized s → Sized (meet_of s t)
unfolding meet_of
meet_sized s t sized = record {
  low = lt_of_le_of_lt (and_le_l s.low t.low) sized.low;
  high = lt_of_le_of_lt (and_le_l s.high t.high) sized.high;
}

-- `==` compares both words, and is the test of equality
pub same_each_word : (s t : RoleSet) → (eqb s.low t.low && eqb s.high t.high) ≡ same_set s t
unfolding same_set
same_each_word s t = refl

pub same_equal : (s t : RoleSet) → same_set s t ≡ true → s ≡ t
unfolding same_set
same_equal s t h =
    let words = (and-eq-true_iff (eqb s.low t.low) (eqb s.high t.high)).0 h in
    λ i. record { low = eqb-true s.low t.low words.0 i; high = eqb-true s.high t.high words.1 i }

pub equal_same : (s : RoleSet) → same_set s s ≡ true
unfolding same_set
equal_same s = ap₂ ◌&&◌ (eq-eqb s.low s.low refl) (eq-eqb s.high s.high refl)

pub includes_within : (s t : RoleSet) → includes t s ≡ true → Within s t
unfolding includes
includes_within s t h = record { every = λ {role} g. meet_right s t (subst⁻¹ (λ (u : RoleSet). role ∈ u) (same_equal (meet_of s t) s h) g) }

pub within_includes : {s t : RoleSet} → Sized s → Within s t → includes t s ≡ true
unfolding includes
within_includes {s} {t} sized h =
    let whole = same_members (meet_sized s t sized) sized (record { every = meet_left s t }) (record { every = λ g. meet_both g (h.every g) }) in
    ap (λ (u : RoleSet). same_set u s) whole ∙ equal_same s

pub shares_share : {s t : RoleSet} → Sized s → shares_role s t ≡ true → Share s t
unfolding shares_role
shares_share {s} {t} sized h = go (search_below 128 (has_role (meet_of s t)))
  where
    go : ((k : ℕ) × (has_role (meet_of s t) k ≡ true)) ⊎ ((k : ℕ) → k < 128 → has_role (meet_of s t) k ≡ false) → Share s t
    go (inl f) = record { role = f.0; first = meet_left s t (record { found = f.1 }); second = meet_right s t (record { found = f.1 }) }
    go (inr none) = absurd (false≢true (sym (ap not nothing) ∙ h))
      where
        empty_meet : Within (meet_of s t) empty_set
        empty_meet = record { every = λ {role} g. absurd (false≢true (sym (none role (below g)) ∙ g.found)) }

        nothing : same_set (meet_of s t) empty_set ≡ true
        nothing = ap (λ (u : RoleSet). same_set u empty_set) (same_members (meet_sized s t sized) empty_sized empty_meet (record { every = λ g. absurd (empty_none g) })) ∙ equal_same empty_set

pub share_shares : (s t : RoleSet) → Share s t → shares_role s t ≡ true
unfolding shares_role
share_shares s t h = go (same_set (meet_of s t) empty_set) refl
  where
    go : (b : Bool) → same_set (meet_of s t) empty_set ≡ b → not (same_set (meet_of s t) empty_set) ≡ true
    go true e = absurd (empty_none (subst (λ (u : RoleSet). h.role ∈ u) (same_equal (meet_of s t) empty_set e) (meet_both h.first h.second)))
    go false e = ap not e

pub share_none : (s t : RoleSet) → shares_role s t ≡ false → Share s t → ⊥
share_none s t e shared = false≢true (sym e ∙ share_shares s t shared)

-- ---- union as an operation on sets

pub union_comm : (s t : RoleSet) → union_of s t ≡ union_of t s
unfolding union_of
union_comm s t = λ i. record { low = or_comm s.low t.low i; high = or_comm s.high t.high i }

pub union_assoc : (s t u : RoleSet) → union_of (union_of s t) u ≡ union_of s (union_of t u)
unfolding union_of
union_assoc s t u = λ i. record { low = or_assoc s.low t.low u.low i; high = or_assoc s.high t.high u.high i }

pub union_self : (s : RoleSet) → union_of s s ≡ s
unfolding union_of
union_self s = λ i. record { low = or_self s.low i; high = or_self s.high i }

pub union_empty : (s : RoleSet) → union_of s empty_set ≡ s
unfolding union_of empty_set
union_empty s = λ i. record { low = or_zero_r s.low i; high = or_zero_r s.high i }

-- ---- the count is the number of members

pub size_members : {s : RoleSet} → Sized s → size_of s ≡ tally 128 (has_role s)
unfolding size_of
size_members {s} sized = ap₂ ◌+◌ (ones_tally 64 s.low sized.low) (ones_tally 64 s.high sized.high)
    ∙ ap₂ ◌+◌ (tally_same 64 (bit s.low) (has_role s) (λ k h. sym (has_low s k h)))
    (tally_same 64 (bit s.high) (λ k. has_role s (64 + k)) (λ k h. sym (has_high s k h)))
    ∙ sym (tally_join 64 64 (has_role s))

-- a role less is one member less
pub tally-without : (s : RoleSet) (role : ℕ) → has_role s role ≡ true → suc (tally 128 (has_role (without_of s role))) ≡ tally 128 (has_role s)
tally-without s role held =
    let fits : role < 128 = below (record { found = held }) in
    tally_less 128 (has_role s) (has_role (without_of s role)) role fits held (absent_test (without_gone s role)) (λ other ne. same other fits (ne_eqb role other (λ e. ne (sym e))))
  where
    same : (other : ℕ) → role < 128 → eqb role other ≡ false → has_role (without_of s role) other ≡ has_role s other
    same other fits e = has_without s role other fits ∙ ap (λ (b : Bool). has_role s other && not b) e ∙ and-true (has_role s other)

-- ---- the lowest role

lowest_low : (s : RoleSet) → count_trailing_zeros 64 s.low < 64 → lowest_role s ≡ count_trailing_zeros 64 s.low
unfolding lowest_role
lowest_low s h = rw (lt-ltb (count_trailing_zeros 64 s.low) 64 h)

lowest_high : (s : RoleSet) → 64 ≤ count_trailing_zeros 64 s.low → lowest_role s ≡ 64 + count_trailing_zeros 64 s.high
unfolding lowest_role
lowest_high s h = rw (le-ltb (count_trailing_zeros 64 s.low) 64 h)

-- in the low word, or in the high word above a low word without roles
data Lowest (s : RoleSet) : ℕ → Type 0 where
  low : count_trailing_zeros 64 s.low < 64 → Lowest s (count_trailing_zeros 64 s.low)
  high : 64 ≤ count_trailing_zeros 64 s.low → Lowest s (64 + count_trailing_zeros 64 s.high)

lowest_place : (s : RoleSet) → Lowest s (lowest_role s)
lowest_place s = go (dec_lt (count_trailing_zeros 64 s.low) 64)
  where
    go : Dec (count_trailing_zeros 64 s.low < 64) → Lowest s (lowest_role s)
    go (yes h) = subst⁻¹ (Lowest s) (lowest_low s h) (low h)
    go (no h) = subst⁻¹ (Lowest s) (lowest_high s (omega arith)) (high (omega arith))

pub lowest_has : (s : RoleSet) → lowest_role s < 128 → has_role s (lowest_role s) ≡ true
lowest_has s fits = go (lowest_place s) fits
  where
    go : {r : ℕ} → Lowest s r → r < 128 → has_role s r ≡ true
    go (low h) f = has_low s (count_trailing_zeros 64 s.low) h ∙ trailing_set 64 s.low h
    go (high h) f = has_high s (count_trailing_zeros 64 s.high) (omega arith) ∙ trailing_set 64 s.high (omega arith)

-- no role is below the lowest
pub lowest_least : (s : RoleSet) (role : ℕ) → role < lowest_role s → has_role s role ≡ false
lowest_least s role under = go (lowest_place s) (place role) under
  where
    go : {r q : ℕ} → Lowest s r → Place q → q < r → has_role s q ≡ false
    go l (nowhere k f) u = has_nowhere s k f
    go (low h) (low k f) u = has_low s k f ∙ trailing_clear 64 s.low k u
    go (low h) (high k f) u = absurd (omega arith)
    go (high h) (low k f) u = has_low s k f ∙ trailing_clear 64 s.low k (omega arith)
    go (high h) (high k f) u = has_high s k f ∙ trailing_clear 64 s.high k (omega arith)

pub lowest_none : (s : RoleSet) → 128 ≤ lowest_role s → (role : ℕ) → has_role s role ≡ false
lowest_none s h role = go (dec_lt role 128)
  where
    go : Dec (role < 128) → has_role s role ≡ false
    go (yes f) = lowest_least s role (omega arith)
    go (no f) = has_nowhere s role (omega arith)

-- ---- words of 64 bits

pub union_sized : {s t : RoleSet} → Sized s → Sized t → Sized (union_of s t)
unfolding union_of
union_sized {s} {t} one two = record { low = or_lt 64 s.low t.low one.low two.low; high = or_lt 64 s.high t.high one.high two.high }

pub single_sized : (role : ℕ) → Sized (single_of role)
unfolding single_of
single_sized role = go (dec_lt role 64) (dec_lt role 128)
  where
    go : Dec (role < 64) → Dec (role < 128) → Sized (single_of role)
    go (yes h) d = rw (lt-ltb role 64 h) (record { low = pow-lt h; high = pow_pos 64 })
    go (no g) (yes h) =
        let fits : role - 64 < 64 = omega arith in
        rw (le-ltb role 64 (omega arith), lt-ltb role 128 h) (record { low = pow_pos 64; high = pow-lt fits })
    go (no g) (no h) = rw (le-ltb role 64 (omega arith), le-ltb role 128 (omega arith)) empty_sized

pub with_sized : {s : RoleSet} (role : ℕ) → Sized s → Sized (with_of s role)
unfolding with_of
with_sized role sized = union_sized sized (single_sized role)
