-- The closure by rounds is the least pair that document 01 asks for.
use Prim.Native.Nat.{ℕ, zero, suc, ◌+◌, ◌≤◌, ◌<◌}
use Rattle.std.specs.Prelude.{Bool, ◌⊎◌, ◌↔◌, ◌≡◌}
use Rattle.std.proofs.Math.Bool.{true, false}
use Rattle.std.proofs.Math.Logic.{⊎_elim}
use Rattle.std.proofs.Math.Path.{refl, sym}
use Rattle.std.proofs.Common.{subst, arith}
use Rattle.roles.specs.Members.{◌∈◌}
use Rattle.roles.specs.MemberLaws.{below}
use Rattle.model.specs.declared.Typing.{Typing as Table}
use Rattle.model.specs.Typing.{Held, Absent}
use Rattle.model.specs.Meaning.{meaning}
use Rattle.model.proofs.Closure.{Closed, closure_closed, held_least, absent_least}
use Rattle.sheets.specs.Turned.{turned_of}
use Rattle.closing.specs.declared.Pair.{Pair}
use Rattle.closing.specs.Rounds.{round_of, same_pair, rounds_of, close_of}
use Rattle.closing.specs.Steps.{rounds_stop, rounds_go_on}
use Rattle.closing.specs.Clauses.{Inside, Contains, SizedPair, Fits, Applied, round_contains, round_sized, round_sound, round_applied}
use Rattle.closing.specs.Growth.{same_pair_lem, other_pair, size_to, size_most, more_or_same}

module _ {t : Table} {roles : ℕ} (fits : Fits t roles) where
  -- what holds of a pair and stays true over a round holds after any number of rounds
  rounds_keep : (G : Pair → Type 0) → ((p : Pair) → G p → G (round_of (turned_of t roles) p)) → (most : ℕ) {p : Pair} → G p → G (rounds_of most (turned_of t roles) p)
  unfolding rounds_of
  rounds_keep G keep zero old = old
  rounds_keep G keep (suc most) {p} old = go (same_pair p (round_of (turned_of t roles) p)) refl (rounds_keep G keep most (keep p old))
    where
      go : (b : Bool) → same_pair p (round_of (turned_of t roles) p) ≡ b → G (rounds_of most (turned_of t roles) (round_of (turned_of t roles) p)) → G (rounds_of (suc most) (turned_of t roles) p)
      go true e rest = rw (rounds_stop most (turned_of t roles) p e) old
      go false e rest = rw (rounds_go_on most (turned_of t roles) p e) rest

  -- ---- the rounds come to rest

  -- a round changes nothing, or the pair has more roles after it
  grows : (p : Pair) → SizedPair p → (p ≡ round_of (turned_of t roles) p) ⊎ (size_to 128 p < size_to 128 (round_of (turned_of t roles) p))
  grows p sized = more_or_same 128 sized (round_sized fits sized) (round_contains t roles p) (record { held = below; absent = below })

  -- so many rounds that no role is left to add end in a pair at rest
  rests : (most : ℕ) {p : Pair} → SizedPair p → 256 ≤ most + size_to 128 p → round_of (turned_of t roles) (rounds_of most (turned_of t roles) p) ≡ rounds_of most (turned_of t roles) p
  unfolding rounds_of
  rests zero {p} sized full =
      ⊎_elim sym (λ less. absurd (omega (arith, size_most 128 (round_of (turned_of t roles) p)))) (grows p sized)
  rests (suc most) {p} sized full = go (same_pair p (round_of (turned_of t roles) p)) refl (rests most (round_sized fits sized))
    where
      go : (b : Bool) → same_pair p (round_of (turned_of t roles) p) ≡ b
          → (256 ≤ most + size_to 128 (round_of (turned_of t roles) p) → round_of (turned_of t roles) (rounds_of most (turned_of t roles) (round_of (turned_of t roles) p)) ≡ rounds_of most (turned_of t roles) (round_of (turned_of t roles) p))
          → round_of (turned_of t roles) (rounds_of (suc most) (turned_of t roles) p) ≡ rounds_of (suc most) (turned_of t roles) p
      go true e rest = rw (rounds_stop most (turned_of t roles) p e) (sym (same_pair_lem p (round_of (turned_of t roles) p) e))
      go false e rest = rw (rounds_go_on most (turned_of t roles) p e) (rest (⊎_elim (λ same. absurd (other_pair p (round_of (turned_of t roles) p) e same)) (λ less. omega arith) (grows p sized)))

  -- another round changes nothing in the closure
  pub close_rests : {p : Pair} → SizedPair p → round_of (turned_of t roles) (close_of (turned_of t roles) p) ≡ close_of (turned_of t roles) p
  unfolding close_of
  close_rests sized = rests 256 sized (omega arith)

  -- ---- a pair at rest is closed

  -- a pair that a round leaves as it is obeys the clauses
  pub rest_closed : (p q : Pair) → Contains p q → round_of (turned_of t roles) q ≡ q → Closed (meaning t) p.held p.absent (λ role. role ∈ q.held) (λ role. role ∈ q.absent)
  rest_closed p q grown rest =
      let all : Applied (meaning t) q q = subst (Applied (meaning t) q) rest (round_applied fits q) in
      record {
        contains_held = grown.held.every;
        contains_absent = grown.absent.every;
        a = all.a;
        b = all.b;
        c = all.c;
      }

-- ---- the closure by rounds is the least pair

module _ {t : Table} {roles : ℕ} (fits : Fits t roles) {p : Pair} (sized : SizedPair p) where
  -- it has all that the pair has
  pub close_contains : Contains p (close_of (turned_of t roles) p)
  unfolding close_of
  close_contains = rounds_keep fits (Contains p) (λ q old. through old (round_contains t roles q)) 256 (record { held = record { every = λ h. h }; absent = record { every = λ h. h } })
    where
      through : {q r : Pair} → Contains p q → Contains q r → Contains p r
      through one two = record { held = record { every = λ h. two.held.every (one.held.every h) }; absent = record { every = λ h. two.absent.every (one.absent.every h) } }

  -- its words are words of 64 bits
  pub close_sized : SizedPair (close_of (turned_of t roles) p)
  unfolding close_of
  close_sized = rounds_keep fits SizedPair (λ q. round_sized fits) 256 sized

  -- it obeys the clauses
  close_closed : Closed (meaning t) p.held p.absent (λ role. role ∈ (close_of (turned_of t roles) p).held) (λ role. role ∈ (close_of (turned_of t roles) p).absent)
  close_closed = rest_closed fits p (close_of (turned_of t roles) p) close_contains (close_rests fits sized)

  -- it goes no further than they do
  close_sound : Inside (Held (meaning t) p.held) (Absent (meaning t) p.held p.absent) (close_of (turned_of t roles) p)
  unfolding close_of
  close_sound =
      rounds_keep fits (Inside (Held (meaning t) p.held) (Absent (meaning t) p.held p.absent))
      (λ q. round_sound fits (closure_closed (meaning t) p.held p.absent)) 256 (record { held = Held.start; absent = Absent.start })

  -- a role is held in the closure by rounds exactly when it is held in the least pair
  pub close_held : (role : ℕ) → role ∈ (close_of (turned_of t roles) p).held ↔ Held (meaning t) p.held role
  close_held role = (close_sound.held, held_least close_closed)

  -- and absent exactly when it is absent there
  pub close_absent : (role : ℕ) → role ∈ (close_of (turned_of t roles) p).absent ↔ Absent (meaning t) p.held p.absent role
  close_absent role = (close_sound.absent, absent_least close_closed)
