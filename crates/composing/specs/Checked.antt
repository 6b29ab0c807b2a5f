-- What merge writes, checked on a text of both policies together, earns SAFE with merge's own counts.
use Rattle.std.specs.Prelude.{◌++◌, ◌≡◌}
use Rattle.reading.specs.Policy.{Said}

-- What a policy text of both together says: the directory of one, and the rules and goals of one followed by those of two.
pub record Joint (s s' both : Said) : Type 0 where
  pub roles : both.roles ≡ s.roles
  pub users : both.users ≡ s.users
  pub holdings : both.holdings ≡ s.holdings
  pub assigns : both.assigns ≡ s.assigns ++ s'.assigns
  pub revokes : both.revokes ≡ s.revokes ++ s'.revokes
  pub goals : both.goals ≡ s.goals ++ s'.goals
