-- The closure is the least pair that document 01 asks for, it is truthful, and it grows with the typing.
use Rattle.std.specs.Prelude.{ℕ}
use Rattle.roles.specs.declared.RoleSet.{RoleSet}
use Rattle.roles.specs.Members.{◌∈◌, Share, Within}
use Rattle.model.specs.declared.Person.{Person}
use Rattle.model.specs.Policy.{◌⊑◌}
use Rattle.model.specs.Typing.{Typing, Held, Absent, Closing, closure, WellTyped}

-- A pair of predicates contains the given sets and obeys (a), (b) and (c).
pub record Closed (Γ : Typing) (s t : RoleSet) (held absent : ℕ → Type 0) : Type 0 where
  pub contains_held : {role : ℕ} → role ∈ s → held role
  pub contains_absent : {role : ℕ} → role ∈ t → absent role
  pub a : {role other : ℕ} → held role → other ∈ Γ.plus role → held other
  pub b : {role other : ℕ} → held role → other ∈ Γ.minus role → absent other
  pub c : {role other : ℕ} → other ∈ Γ.plus role → absent other → absent role

-- The closure is such a pair,
pub closure_closed : (Γ : Typing) (s t : RoleSet) → Closed Γ s t (Held Γ s) (Absent Γ s t)
closure_closed Γ s t = record { contains_held = Held.start; contains_absent = Absent.start; a = Held.a; b = Absent.b; c = Absent.c }

-- and lies within every other.
module _ {Γ : Typing} {s t : RoleSet} {held absent : ℕ → Type 0} (pair : Closed Γ s t held absent) where
  pub held_least : {role : ℕ} → Held Γ s role → held role
  held_least (Held.start m) = pair.contains_held m
  held_least (Held.a h m) = pair.a (held_least h) m

  pub absent_least : {role : ℕ} → Absent Γ s t role → absent role
  absent_least (Absent.start m) = pair.contains_absent m
  absent_least (Absent.b h m) = pair.b (held_least h) m
  absent_least (Absent.c m h) = pair.c m (absent_least h)

-- A closing is truthful: of a well-typed person who holds all of s and none of t, what it says is held is held, and what it
-- says is absent is not held (source 003, lemma 1).
pub record Truthful (C : Closing) : Type 0 where
  pub held : {Γ : Typing} {p : Person} {s t : RoleSet} {role : ℕ} → WellTyped Γ p → Within s p.roles → (Share t p.roles → ⊥) → C.held Γ s t role → role ∈ p.roles
  pub absent : {Γ : Typing} {p : Person} {s t : RoleSet} {role : ℕ} → WellTyped Γ p → Within s p.roles → (Share t p.roles → ⊥) → C.absent Γ s t role → role ∈ p.roles → ⊥

-- What a well-typed person holds and lacks is a pair that obeys the clauses.
person_closed : {Γ : Typing} {p : Person} {s t : RoleSet} → WellTyped Γ p → Within s p.roles → (Share t p.roles → ⊥) → Closed Γ s t (λ role. role ∈ p.roles) (λ role. role ∈ p.roles → ⊥)
person_closed typed holds lacks = record {
  contains_held = holds.every;
  contains_absent = λ {role} m h. lacks (record { role = role; first = m; second = h });
  a = λ h m. (typed.plus h).every m;
  b = λ {role} {other} h m g. typed.minus h (record { role = other; first = m; second = g });
  c = λ m lack h. lack ((typed.plus h).every m);
}

pub closure_truthful : Truthful closure
unfolding closure
closure_truthful = record {
  held = λ typed holds lacks h. held_least (person_closed typed holds lacks) h;
  absent = λ typed holds lacks h. absent_least (person_closed typed holds lacks) h;
}

-- One typing says no more than another: its labels are at most the other's, its sets lie within the other's.
pub record Below (Γ Δ : Typing) : Type 0 where
  pub label : (role : ℕ) → Γ.label role ⊑ Δ.label role
  pub plus : (role : ℕ) → Within (Γ.plus role) (Δ.plus role)
  pub minus : (role : ℕ) → Within (Γ.minus role) (Δ.minus role)

-- A closing grows with the typing.
pub record Grows (C : Closing) : Type 0 where
  pub held : {Γ Δ : Typing} {s t : RoleSet} {role : ℕ} → Below Γ Δ → C.held Γ s t role → C.held Δ s t role
  pub absent : {Γ Δ : Typing} {s t : RoleSet} {role : ℕ} → Below Γ Δ → C.absent Γ s t role → C.absent Δ s t role

-- The closure under the larger typing obeys the clauses of the smaller.
larger_closed : {Γ Δ : Typing} (s t : RoleSet) → Below Γ Δ → Closed Γ s t (Held Δ s) (Absent Δ s t)
larger_closed s t below = record {
  contains_held = Held.start;
  contains_absent = Absent.start;
  a = λ {role} h m. Held.a h ((below.plus role).every m);
  b = λ {role} h m. Absent.b h ((below.minus role).every m);
  c = λ {role} m h. Absent.c ((below.plus role).every m) h;
}

pub closure_grows : Grows closure
unfolding closure
closure_grows = record {
  held = λ {Γ} {Δ} {s} {t} below h. held_least (larger_closed s t below) h;
  absent = λ {Γ} {Δ} {s} {t} below h. absent_least (larger_closed s t below) h;
}
