-- How many rounds of the closure change something: at most twice the number of roles.
use Prim.Native.Nat.{ℕ, zero, suc, ◌+◌, ◌*◌, ◌≤◌, ◌<◌}
use Rattle.std.specs.Prelude.{Bool, ◌≡◌}
use Rattle.std.proofs.Math.Bool.{true, false}
use Rattle.std.proofs.Common.{⊎_elim, arith}
use Rattle.std.proofs.Math.Path.{refl}
use Rattle.roles.specs.Members.{◌∈◌}
use Rattle.model.specs.declared.Typing.{Typing as Table}
use Rattle.model.specs.Meaning.{meaning}
use Rattle.sheets.specs.Turned.{turned_of}
use Rattle.closing.specs.declared.Pair.{Pair}
use Rattle.closing.specs.Rounds.{round_of, same_pair, changes_of}
use Rattle.closing.specs.Steps.{changes_stop, changes_go_on}
use Rattle.closing.specs.Clauses.{SizedPair, Fits, plus_below, round_contains, round_sized, round_sound}
use Rattle.closing.specs.Growth.{other_pair, size_to, Under, size_most, more_or_same}

-- All sets of the typing lie below the number of roles.
pub record Inner (t : Table) (roles : ℕ) : Type 0 where
  pub plus : (role : ℕ) {other : ℕ} → other ∈ (meaning t).plus role → other < roles
  pub minus : (role : ℕ) {other : ℕ} → other ∈ (meaning t).minus role → other < roles

module _ {t : Table} {roles : ℕ} (fits : Fits t roles) (inner : Inner t roles) where
  -- a round adds no role past the others
  round_under : {p : Pair} → Under roles p → Under roles (round_of (turned_of t roles) p)
  round_under {p} under = round_sound fits {s = p.held} {u = p.absent} (record {
    contains_held = under.held;
    contains_absent = under.absent;
    a = λ {role} h m. inner.plus role m;
    b = λ {role} h m. inner.minus role m;
    c = λ m h. omega (arith, plus_below fits m);
  }) under

  -- each round that changes something takes the place of a role
  room : (most : ℕ) {p : Pair} → SizedPair p → Under roles p → changes_of most (turned_of t roles) p + size_to roles p ≤ 2 * roles
  unfolding changes_of
  room zero {p} sized under = omega (arith, size_most roles p)
  room (suc most) {p} sized under = go (same_pair p (round_of (turned_of t roles) p)) refl (room most (round_sized fits sized) (round_under under))
    where
      go : (b : Bool) → same_pair p (round_of (turned_of t roles) p) ≡ b → changes_of most (turned_of t roles) (round_of (turned_of t roles) p) + size_to roles (round_of (turned_of t roles) p) ≤ 2 * roles
          → changes_of (suc most) (turned_of t roles) p + size_to roles p ≤ 2 * roles
      go true e rest = rw (changes_stop most (turned_of t roles) p e) (omega (arith, size_most roles p))
      go false e rest =
          rw (changes_go_on most (turned_of t roles) p e)
          (⊎_elim (λ same. absurd (other_pair p (round_of (turned_of t roles) p) e same)) (λ less. omega arith) (more_or_same roles sized (round_sized fits sized) (round_contains t roles p) (round_under under)))

  -- at most twice the number of roles
  pub changes_most : (most : ℕ) {p : Pair} → SizedPair p → Under roles p → changes_of most (turned_of t roles) p ≤ 2 * roles
  changes_most most sized under = omega (arith, room most sized under)
