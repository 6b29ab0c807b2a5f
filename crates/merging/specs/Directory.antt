-- Whether two policies are over the same roles in order, the same users in order, with the same clearances and holdings.
use Rattle.std.specs.Prelude.{Bool, not, cond, ◌&&◌, ◌≡◌}
use Rattle.std.specs.Cmp.Lexicographic.{pointwise}
use Rattle.roles.specs.Sets.{same_set}
use Rattle.model.specs.declared.Person.{Person}
use Rattle.tables.specs.Names.{same_name}
use Rattle.reading.specs.Policy.{Said}

unfoldable pub same_label : Bool → Bool → Bool
same_label l m = cond l m (not m)

-- a clearance, present or gone, and the roles held as a set
unfoldable pub same_person : Person → Person → Bool
same_person p q = same_label p.clearance q.clearance && same_label p.present q.present && same_set p.roles q.roles

unfoldable pub same_directory : Said → Said → Bool
same_directory s t = pointwise same_name s.roles t.roles && pointwise same_name s.users t.users && pointwise same_person s.holdings t.holdings

-- The same roles in order, the same users in order, with the same clearances and holdings.
pub record SameDirectory (s s' : Said) : Type 0 where
  pub roles : s.roles ≡ s'.roles
  pub users : s.users ≡ s'.users
  pub holdings : s.holdings ≡ s'.holdings
