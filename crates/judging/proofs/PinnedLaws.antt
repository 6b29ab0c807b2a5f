-- Pinned is the number of members of all plus and minus sets of a typing.
use Rattle.std.specs.Prelude.{ℕ, zero, suc, ◌+◌, ◌≤◌, List, [], ◌∷◌, ◌++◌, ◌≡◌, refl, get_or, replicate}
use Rattle.std.proofs.Common.{sym, ap, ap₂, ◌∙◌, arith}
use Rattle.std.specs.Int.Count.{ones}
use Rattle.roles.specs.declared.RoleSet.{RoleSet}
use Rattle.roles.specs.Sets.{empty_set, has_role, size_of}
use Rattle.roles.specs.Words.{tally}
use Rattle.roles.specs.Members.{Sized}
use Rattle.roles.specs.MemberLaws.{empty_sized, size_members}
use Rattle.model.specs.declared.Typing.{Typing as Table}
use Rattle.model.specs.Meaning.{meaning}
use Rattle.model.specs.Typing.{Typing}
use Rattle.rules.specs.RuleExact.{Laid}
use Rattle.judging.specs.Verdict.{pinned_below, pinned_names}

-- How many members all sets of a list have.
unfoldable pub members_of : List RoleSet → ℕ
members_of [] = 0
members_of (s ∷ rest) = tally 128 (has_role s) + members_of rest

-- of some sets and others
pub members_more : (s t : List RoleSet) → members_of (s ++ t) ≡ members_of s + members_of t
unfolding members_of
members_more [] t = omega arith
members_more (set ∷ s) t = omega (arith, members_more s t)

-- empty sets have none
pub empty_members : tally 128 (has_role empty_set) ≡ 0
unfolding size_of empty_set ones
empty_members = sym (size_members empty_sized)

pub members_none : (count : ℕ) → members_of (replicate count empty_set) ≡ 0
unfolding members_of
members_none zero = refl
members_none (suc count) = omega (arith, empty_members, members_none count)

-- ---- role by role

-- the sum of a number for each role below a number
sum_below : ℕ → (ℕ → ℕ) → ℕ
sum_below zero f = 0
sum_below (suc n) f = f 0 + sum_below n (λ k. f (suc k))

sum_last : (n : ℕ) (f : ℕ → ℕ) → sum_below (suc n) f ≡ sum_below n f + f n
unfolding sum_below
sum_last zero f = omega arith
sum_last (suc n) f = omega (arith, sum_last n (λ k. f (suc k)))

pinned_sums : (n : ℕ) (Γ : Typing) → pinned_below n Γ ≡ sum_below n (λ role. size_of (Γ.plus role)) + sum_below n (λ role. size_of (Γ.minus role))
unfolding pinned_below sum_below
pinned_sums zero Γ = refl
pinned_sums (suc n) Γ =
    omega (arith, pinned_sums n Γ, sum_last n (λ role. size_of (Γ.plus role)), sum_last n (λ role. size_of (Γ.minus role)))

-- sets in words of 64 bits, empty from a role on
sum_members : (n : ℕ) (sets : List RoleSet) → ((role : ℕ) → Sized (get_or sets role empty_set)) → ((role : ℕ) → n ≤ role → get_or sets role empty_set ≡ empty_set)
    → sum_below n (λ role. size_of (get_or sets role empty_set)) ≡ members_of sets
unfolding sum_below members_of
sum_members zero [] sized past = refl
sum_members (suc n) [] sized past = omega (arith, size_members (sized 0), empty_members, sum_members n [] (λ role. sized (suc role)) (λ role from. past (suc role) (omega arith)))
sum_members zero (set ∷ sets) sized past =
    omega (arith, ap (λ (s : RoleSet). tally 128 (has_role s)) (past 0 (omega arith)), empty_members, sum_members zero sets (λ role. sized (suc role)) (λ role from. past (suc role) (omega arith)))
sum_members (suc n) (set ∷ sets) sized past =
    omega (arith, size_members (sized 0), sum_members n sets (λ role. sized (suc role)) (λ role from. past (suc role) (omega arith)))

-- no role is left out
pinned_all : (t : Table) {roles : ℕ} → roles ≤ 128 → pinned_names t roles ≡ pinned_below roles (meaning t)
unfolding pinned_names
pinned_all t {roles} most = ap (λ (n : ℕ). pinned_below n (meaning t)) (omega arith)

-- Over the roles that a typing is laid out for, pinned counts every member of every plus and minus set.
pub pinned_members : (t : Table) {roles : ℕ} → Laid t roles → pinned_names t roles ≡ members_of t.plus + members_of t.minus
unfolding meaning
pinned_members t {roles} laid =
    pinned_all t laid.fits.limit
    ∙ pinned_sums roles (meaning t)
    ∙ ap₂ ◌+◌ (sum_members roles t.plus laid.fits.sized.plus laid.fits.plus_past) (sum_members roles t.minus laid.fits.sized.minus laid.fits.minus_past)
