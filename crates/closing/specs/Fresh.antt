-- Rounds that go through new roles only: what the roles gone through before bring is there already.
use Rattle.std.specs.Prelude.{ℕ, ◌≡◌}
use Rattle.std.proofs.Common.{sym, ap, ◌∙◌}
use Rattle.roles.specs.declared.RoleSet.{RoleSet}
use Rattle.roles.specs.Sets.{empty_set, union_of, apart_of}
use Rattle.roles.specs.MemberLaws.{has_empty, union_comm, union_assoc, union_self, union_empty}
use Rattle.sheets.specs.Turned.{sets_of, Turned}
use Rattle.sheets.specs.Joining.{sets_none, sets_fresh}
use Rattle.closing.specs.declared.Pair.{Pair}
use Rattle.closing.specs.Rounds.{round_of}

-- A round for the roles of a pair that are not in an earlier one.
unfoldable pub fresh_round : Turned → Pair → Pair → Pair
fresh_round said before pair = record {
  held = union_of pair.held (sets_of said.plus (apart_of pair.held before.held));
  absent = union_of (union_of pair.absent (sets_of said.minus (apart_of pair.held before.held))) (sets_of said.needed (apart_of pair.absent before.absent));
}

-- the pair of no roles
unfoldable pub no_pair : Pair
no_pair = record { held = empty_set; absent = empty_set }

-- The second pair has all that the clauses ask of the first.
pub record Passed (said : Turned) (before pair : Pair) : Type 0 where
  pub plus : union_of pair.held (sets_of said.plus before.held) ≡ pair.held
  pub minus : union_of pair.absent (sets_of said.minus before.held) ≡ pair.absent
  pub needed : union_of pair.absent (sets_of said.needed before.absent) ≡ pair.absent

-- ---- unions

-- a union in another order
pub union_swap : (s t u : RoleSet) → union_of (union_of s t) u ≡ union_of (union_of s u) t
union_swap s t u = union_assoc s t u ∙ ap (union_of s) (union_comm t u) ∙ sym (union_assoc s u t)

-- what a set has already adds nothing
union_twice : (s t : RoleSet) → union_of (union_of s t) t ≡ union_of s t
union_twice s t = union_assoc s t t ∙ ap (union_of s) (union_self t)

-- a set that has all that earlier members bring gains from the new ones what it gains from all
gains : (own : ℕ → RoleSet) (set members before : RoleSet) → union_of set (sets_of own before) ≡ set → union_of set (sets_of own (apart_of members before)) ≡ union_of set (sets_of own members)
gains own set members before has =
    ap (λ s. union_of s (sets_of own (apart_of members before))) (sym has)
    ∙ union_assoc set (sets_of own before) (sets_of own (apart_of members before))
    ∙ ap (union_of set) (sets_fresh own members before)
    ∙ sym (union_assoc set (sets_of own before) (sets_of own members))
    ∙ ap (λ s. union_of s (sets_of own members)) has

-- ---- rounds

-- before the first round nothing was gone through
pub passed_start : (said : Turned) (pair : Pair) → Passed said no_pair pair
unfolding no_pair
passed_start said pair = record { plus = none pair.held said.plus; minus = none pair.absent said.minus; needed = none pair.absent said.needed }
  where
    none : (set : RoleSet) (own : ℕ → RoleSet) → union_of set (sets_of own empty_set) ≡ set
    none set own = ap (union_of set) (sets_none own empty_set has_empty) ∙ union_empty set

module _ (said : Turned) (before pair : Pair) where
  -- the new roles bring as much as all do
  pub fresh_round_lem : Passed said before pair → fresh_round said before pair ≡ round_of said pair
  unfolding fresh_round round_of
  fresh_round_lem passed = λ i. record { held = held i; absent = absent i }
    where
      held : union_of pair.held (sets_of said.plus (apart_of pair.held before.held)) ≡ union_of pair.held (sets_of said.plus pair.held)
      held = gains said.plus pair.held pair.held before.held passed.plus

      -- the minus sets, which leave the rest passed
      barred : union_of pair.absent (sets_of said.minus (apart_of pair.held before.held)) ≡ union_of pair.absent (sets_of said.minus pair.held)
      barred = gains said.minus pair.absent pair.held before.held passed.minus

      still : (more : RoleSet) → union_of (union_of pair.absent more) (sets_of said.needed before.absent) ≡ union_of pair.absent more
      still more = union_swap pair.absent more (sets_of said.needed before.absent) ∙ ap (λ s. union_of s more) passed.needed

      absent : union_of (union_of pair.absent (sets_of said.minus (apart_of pair.held before.held))) (sets_of said.needed (apart_of pair.absent before.absent))
          ≡ union_of (union_of pair.absent (sets_of said.minus pair.held)) (sets_of said.needed pair.absent)
      absent =
          ap (λ s. union_of s (sets_of said.needed (apart_of pair.absent before.absent))) barred
          ∙ gains said.needed _ pair.absent before.absent (still (sets_of said.minus pair.held))

-- after a round the pair was gone through
pub passed_round : (said : Turned) (pair : Pair) → Passed said pair (round_of said pair)
unfolding round_of
passed_round said pair = record {
  plus = union_twice pair.held (sets_of said.plus pair.held);
  minus =
      union_swap (union_of pair.absent (sets_of said.minus pair.held)) (sets_of said.needed pair.absent) (sets_of said.minus pair.held)
      ∙ ap (λ s. union_of s (sets_of said.needed pair.absent)) (union_twice pair.absent (sets_of said.minus pair.held));
  needed = union_twice (union_of pair.absent (sets_of said.minus pair.held)) (sets_of said.needed pair.absent);
}
