-- Pairs that are the same; and a pair that grows has more roles, or stays the same.
use Rattle.std.specs.Prelude.{ℕ, ◌+◌, ◌*◌, ◌≤◌, ◌<◌, true, false, ◌&&◌, ◌⊎◌, ◌≡◌}
use Rattle.std.proofs.lemmas.Bool.{false≢true}
use Rattle.std.proofs.Math.Bool.{and-eq-true_iff}
use Rattle.std.proofs.Common.{inl, inr, sym, ap₂, ◌∙◌, arith}
use Rattle.std.proofs.Math.Decide.{dec_lt}
use Rattle.roles.specs.declared.RoleSet.{RoleSet}
use Rattle.roles.specs.Sets.{has_role, same_set}
use Rattle.roles.specs.Words.{tally}
use Rattle.roles.specs.Members.{◌∈◌, Within}
use Rattle.roles.specs.MemberLaws.{same_members, same_equal, equal_same}
use Rattle.closing.specs.declared.Pair.{Pair}
use Rattle.closing.specs.Rounds.{same_pair}
use Rattle.closing.specs.Counting.{tally_most, tally_grows, tally-full}
use Rattle.closing.specs.Clauses.{Inside, Contains, SizedPair}

-- the test tells whether two pairs are equal
pub same_pair_lem : (p q : Pair) → same_pair p q ≡ true → p ≡ q
unfolding same_pair
same_pair_lem p q e =
    let sets = (and-eq-true_iff (same_set p.held q.held) (same_set p.absent q.absent)).0 e in
    λ i. record { held = same_equal p.held q.held sets.0 i; absent = same_equal p.absent q.absent sets.1 i }

pub other_pair : (p q : Pair) → same_pair p q ≡ false → p ≡ q → ⊥
unfolding same_pair
other_pair p q e eq =
    let same : same_pair q q ≡ true = ap₂ ◌&&◌ (equal_same q.held) (equal_same q.absent) in
    false≢true (sym (rw eq at e) ∙ same)

-- ---- a pair that grows has more roles, or stays the same

-- how many roles below a number a pair has, held and absent ones counted apart
unfoldable pub size_to : ℕ → Pair → ℕ
size_to n p = tally n (has_role p.held) + tally n (has_role p.absent)

-- all roles of a pair are below a number
abbrev pub Under : ℕ → Pair → Type 0
Under n = Inside (λ role. role < n) (λ role. role < n)

-- at most so many of each
pub size_most : (n : ℕ) (p : Pair) → size_to n p ≤ 2 * n
unfolding size_to
size_most n p = omega (arith, tally_most n (has_role p.held), tally_most n (has_role p.absent))

-- a set within another has no more members, and where it has as many it is the same set
module _ (n : ℕ) {s u : RoleSet} (more : Within s u) where
  up : (k : ℕ) → k < n → has_role s k ≡ true → has_role u k ≡ true
  up k h e = (more.every (record { found = e })).found

  no_fewer : tally n (has_role s) ≤ tally n (has_role u)
  no_fewer = tally_grows n (has_role s) (has_role u) up

  no_more : ((role : ℕ) → role ∈ u → role < n) → tally n (has_role u) ≤ tally n (has_role s) → Within u s
  no_more low full = record { every = λ {role} h. record { found = tally-full n (has_role s) (has_role u) up full role (low role h) h.found } }

pub more_or_same : (n : ℕ) {p q : Pair} → SizedPair p → SizedPair q → Contains p q → Under n q → (p ≡ q) ⊎ (size_to n p < size_to n q)
unfolding size_to
more_or_same n {p} {q} one two grown under = go (dec_lt (size_to n p) (size_to n q))
  where
    go : Dec (size_to n p < size_to n q) → (p ≡ q) ⊎ (size_to n p < size_to n q)
    go (yes less) = inr less
    go (no full) =
        let fewer-held = no_fewer n grown.held in
        let fewer-absent = no_fewer n grown.absent in
        let held = same_members one.held two.held grown.held (no_more n grown.held (λ role. under.held) (omega arith)) in
        let absent = same_members one.absent two.absent grown.absent (no_more n grown.absent (λ role. under.absent) (omega arith)) in
        inl (λ i. record { held = held i; absent = absent i })
