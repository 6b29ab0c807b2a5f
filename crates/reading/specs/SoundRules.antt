-- What every policy that is read satisfies: its counts are within their limits, its names are well formed and stand once, and what its
-- users hold, its rules and its goals name declared roles, in words of 64 bits.
use Rattle.std.specs.Prelude.{ℕ, ◌≤◌, ◌<◌, true, ◌≡◌, length}
use mathlib.Core.List.{List, Memᴰ as Listed}
use Rattle.model.specs.declared.Assign.{Assign}
use Rattle.model.specs.declared.Revoke.{Revoke}
use Rattle.model.specs.declared.Person.{Person}
use Rattle.tables.specs.declared.Name.{Name}
use Rattle.tables.specs.NamedRules.{Named}
use Rattle.fields.specs.Insides.{Inside}
use Rattle.reading.specs.Policy.{Said}

-- At most so many names, each well formed, and none twice.
pub record Listing (limit : ℕ) (names : List Name) : Type 0 where
  pub most : length names ≤ limit
  pub named : Named names

-- At most so many elements, with something that holds of each.
pub record AtMost {A : Type 0} (limit : ℕ) (P : A → Type 0) (xs : List A) : Type 0 where
  pub most : length xs ≤ limit
  pub each : (x : A) → Listed x xs → P x

-- A rule names roles below a number only.
pub record AssignOver (roles : ℕ) (rule : Assign) : Type 0 where
  pub admin : rule.admin < roles
  pub positive : Inside roles rule.positive
  pub negative : Inside roles rule.negative
  pub target : rule.target < roles

pub record RevokeOver (roles : ℕ) (rule : Revoke) : Type 0 where
  pub admin : rule.admin < roles
  pub target : rule.target < roles

-- A person is present and holds roles below a number only.
pub record PersonOver (roles : ℕ) (p : Person) : Type 0 where
  pub here : p.present ≡ true
  pub held : Inside roles p.roles

pub record Sound (s : Said) : Type 0 where
  pub roles : Listing 128 s.roles
  pub users : Listing 64 s.users
  -- every user has holdings
  pub people : length s.holdings ≡ length s.users
  pub holdings : (p : Person) → Listed p s.holdings → PersonOver (length s.roles) p
  pub assigns : AtMost 256 (AssignOver (length s.roles)) s.assigns
  pub revokes : AtMost 256 (RevokeOver (length s.roles)) s.revokes
  pub goals : AtMost 32 (Inside (length s.roles)) s.goals
