-- One round: it goes no further than the clauses, it keeps the pair, and it takes in what each clause asks of the pair as it stood.
use Prim.Native.Nat.{ℕ, ◌≤◌, ◌<◌, min}
use Rattle.std.specs.Prelude.{◌↔◌, ◌≡◌}
use Rattle.std.proofs.Math.Logic.{⊎_elim}
use Rattle.std.proofs.Common.{lt-ltb, le-ltb, arith}
use Rattle.std.proofs.Math.Decide.{dec_lt}
use Rattle.roles.specs.declared.RoleSet.{RoleSet}
use Rattle.roles.specs.Sets.{empty_set, has_role}
use Rattle.roles.specs.Members.{◌∈◌, Within, Sized}
use Rattle.roles.specs.MemberLaws.{empty_none, union_cases, union_left, union_right, union_sized}
use Rattle.model.specs.declared.Typing.{Typing as Table}
use Rattle.model.specs.Typing.{Typing}
use Rattle.model.specs.Meaning.{meaning}
use Rattle.model.proofs.Closure.{Closed}
use Rattle.sheets.specs.Turned.{own_below, named_below, sets_of, turned_of}
use Rattle.sheets.specs.Members.{below_exact, sets_exact, below_sized, sets_sized}
use Rattle.closing.specs.declared.Pair.{Pair}
use Rattle.closing.specs.Rounds.{round_of}

-- every held role of the pair is one of the first kind, every absent role one of the second
pub record Inside (P Q : ℕ → Type 0) (pair : Pair) : Type 0 where
  pub held : {role : ℕ} → role ∈ pair.held → P role
  pub absent : {role : ℕ} → role ∈ pair.absent → Q role

-- the second pair has all that the first has
pub record Contains (p q : Pair) : Type 0 where
  pub held : Within p.held q.held
  pub absent : Within p.absent q.absent

-- all four words are words of 64 bits
pub record SizedPair (pair : Pair) : Type 0 where
  pub held : Sized pair.held
  pub absent : Sized pair.absent

-- the words of every set of a typing are words of 64 bits
pub record SizedTyping (Γ : Typing) : Type 0 where
  pub plus : (role : ℕ) → Sized (Γ.plus role)
  pub minus : (role : ℕ) → Sized (Γ.minus role)

-- A typing over at most 128 roles, laid out with empty sets past them, in words of 64 bits.
pub record Fits (t : Table) (roles : ℕ) : Type 0 where
  pub limit : roles ≤ 128
  pub sized : SizedTyping (meaning t)
  pub plus_past : (role : ℕ) → roles ≤ role → (meaning t).plus role ≡ empty_set
  pub minus_past : (role : ℕ) → roles ≤ role → (meaning t).minus role ≡ empty_set

-- The second pair has what each clause asks of the first.
pub record Applied (Γ : Typing) (stood new : Pair) : Type 0 where
  pub a : {role other : ℕ} → role ∈ stood.held → other ∈ Γ.plus role → other ∈ new.held
  pub b : {role other : ℕ} → role ∈ stood.held → other ∈ Γ.minus role → other ∈ new.absent
  pub c : {role other : ℕ} → other ∈ Γ.plus role → other ∈ stood.absent → role ∈ new.absent

-- ---- what a typing says of each role

module _ (t : Table) (roles : ℕ) where
  pub needed_sized : (role : ℕ) → Sized ((turned_of t roles).needed role)
  unfolding turned_of named_below
  needed_sized role = below_sized (min roles 128) (λ other. has_role ((meaning t).plus other) role)

  pub opposed_sized : (role : ℕ) → Sized ((turned_of t roles).opposed role)
  unfolding turned_of named_below
  opposed_sized role = below_sized (min roles 128) (λ other. has_role ((meaning t).minus other) role)

  pub high_sized : Sized (turned_of t roles).high
  unfolding turned_of
  high_sized = below_sized (min roles 128) (meaning t).label

-- sets of the first roles, with empty sets past them
module _ {roles : ℕ} (limit : roles ≤ 128) (own : ℕ → RoleSet) (past : (role : ℕ) → roles ≤ role → own role ≡ empty_set) where
  -- a role whose set has a member is among the first roles
  filled_below : {role other : ℕ} → other ∈ own role → role < min roles 128
  filled_below {role} m = go (dec_lt role roles)
    where
      go : Dec (role < roles) → role < min roles 128
      go (yes lt) = omega arith
      go (no ge) = absurd (empty_none (rw (past role (omega arith)) at m))

  own_all : (role : ℕ) → own_below (min roles 128) own role ≡ own role
  unfolding own_below
  own_all role = go (dec_lt role (min roles 128))
    where
      go : Dec (role < min roles 128) → own_below (min roles 128) own role ≡ own role
      go (yes lt) = rw (lt-ltb role (min roles 128) lt)
      go (no ge) = rw (le-ltb role (min roles 128) (omega arith), past role (omega arith))

  named_exact : (other role : ℕ) → role ∈ named_below (min roles 128) own other ↔ (other ∈ own role)
  unfolding named_below
  named_exact other role =
      let below = below_exact (min roles 128) (omega arith) (λ r. has_role (own r) other) role in
      (λ m. record { found = (below.0 m).1 }, λ m. below.1 (filled_below m, m.found))

module _ {t : Table} {roles : ℕ} (fits : Fits t roles) where
  pub plus_below : {role other : ℕ} → other ∈ (meaning t).plus role → role < min roles 128
  plus_below = filled_below fits.limit (meaning t).plus fits.plus_past

  -- its own sets
  pub own_plus : (role : ℕ) → (turned_of t roles).plus role ≡ (meaning t).plus role
  unfolding turned_of
  own_plus = own_all fits.limit (meaning t).plus fits.plus_past

  pub own_minus : (role : ℕ) → (turned_of t roles).minus role ≡ (meaning t).minus role
  unfolding turned_of
  own_minus = own_all fits.limit (meaning t).minus fits.minus_past

  -- those that have it in their plus set
  pub needed_exact : (other role : ℕ) → role ∈ (turned_of t roles).needed other ↔ (other ∈ (meaning t).plus role)
  unfolding turned_of
  needed_exact = named_exact fits.limit (meaning t).plus fits.plus_past

  -- those that have it in their minus set
  pub opposed_exact : (other role : ℕ) → role ∈ (turned_of t roles).opposed other ↔ (other ∈ (meaning t).minus role)
  unfolding turned_of
  opposed_exact = named_exact fits.limit (meaning t).minus fits.minus_past

  -- ---- a round

  -- goes no further than the clauses
  pub round_sound : {s u : RoleSet} {P Q : ℕ → Type 0} → Closed (meaning t) s u P Q → {p : Pair} → Inside P Q p → Inside P Q (round_of (turned_of t roles) p)
  unfolding round_of
  round_sound {s} {u} {P} {Q} closed {p} old = record {
    held = λ {role} h.
        ⊎_elim old.held (λ m. let from = (sets_exact (turned_of t roles).plus p.held role).0 m in closed.a (old.held from.is_member) (rw (own_plus from.member) at from.brings))
        (union_cases p.held (sets_of (turned_of t roles).plus p.held) h);
    absent = λ {role} h.
        ⊎_elim (λ h'. ⊎_elim old.absent (barred role) (union_cases p.absent (sets_of (turned_of t roles).minus p.held) h')) (missing role)
        (union_cases _ (sets_of (turned_of t roles).needed p.absent) h);
  }
    where
      -- by clause (b)
      barred : (role : ℕ) → role ∈ sets_of (turned_of t roles).minus p.held → Q role
      barred role m =
          let from = (sets_exact (turned_of t roles).minus p.held role).0 m in
          closed.b (old.held from.is_member) (rw (own_minus from.member) at from.brings)

      -- by clause (c)
      missing : (role : ℕ) → role ∈ sets_of (turned_of t roles).needed p.absent → Q role
      missing role m =
          let from = (sets_exact (turned_of t roles).needed p.absent role).0 m in
          closed.c ((needed_exact from.member role).0 from.brings) (old.absent from.is_member)

  -- takes in what each clause asks
  pub round_applied : (p : Pair) → Applied (meaning t) p (round_of (turned_of t roles) p)
  unfolding round_of
  round_applied p = record {
    a = λ {role} {other} h m. union_right p.held ((sets_exact (turned_of t roles).plus p.held other).1 (record { member = role; is_member = h; brings = rw (own_plus role) m }));
    b = λ {role} {other} h m.
        union_left (sets_of (turned_of t roles).needed p.absent)
        (union_right p.absent ((sets_exact (turned_of t roles).minus p.held other).1 (record { member = role; is_member = h; brings = rw (own_minus role) m })));
    c = λ {role} {other} m h.
        union_right _ ((sets_exact (turned_of t roles).needed p.absent role).1 (record { member = other; is_member = h; brings = (needed_exact other role).1 m }));
  }

  -- keeps words of 64 bits
  pub round_sized : {p : Pair} → SizedPair p → SizedPair (round_of (turned_of t roles) p)
  unfolding round_of
  round_sized {p} old = record {
    held = union_sized old.held (sets_sized (turned_of t roles).plus (λ role. rw (own_plus role) (fits.sized.plus role)) p.held);
    absent = union_sized (union_sized old.absent (sets_sized (turned_of t roles).minus (λ role. rw (own_minus role) (fits.sized.minus role)) p.held)) (sets_sized (turned_of t roles).needed (needed_sized t roles) p.absent);
  }

-- keeps the pair
pub round_contains : (t : Table) (roles : ℕ) (p : Pair) → Contains p (round_of (turned_of t roles) p)
unfolding round_of
round_contains t roles p = record {
  held = record { every = λ h. union_left _ h };
  absent = record { every = λ h. union_left _ (union_left _ h) };
}
