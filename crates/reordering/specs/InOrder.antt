-- The order in which a policy is spelt: has lines in user order, then role order, and the names of a set in role order.
use Rattle.std.specs.Prelude.{ℕ, ◌<◌, ◌≡◌}
use mathlib.Core.List.{List, map, IsChain}
use Rattle.tables.specs.declared.Name.{Name}
use Rattle.tables.specs.Names.{name_at}
use Rattle.lines.specs.declared.Entry.{Entry}
use Rattle.writing.specs.Written.{spelled}

-- A has line that stands before another: by user, then by role.
pub data HasBefore : Entry → Entry → Type 0 where
  by_user : {user role later other : ℕ} → user < later → HasBefore (Entry.Has user role) (Entry.Has later other)
  by_role : {user role later : ℕ} → role < later → HasBefore (Entry.Has user role) (Entry.Has user later)

-- Has lines, each before the next.
pub record HasInOrder (entries : List Entry) : Type 0 where
  pub ascending : IsChain HasBefore entries

-- Names of roles, each role before the next.
pub record NamesInOrder (table : List Name) (names : List (List ℕ)) : Type 0 where
  pub roles : List ℕ
  pub ascending : IsChain ◌<◌ roles
  pub named : names ≡ map (λ (role : ℕ). spelled (name_at table role)) roles
