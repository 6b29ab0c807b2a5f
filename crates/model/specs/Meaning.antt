-- What the arrays of a typing mean: a label, a plus set and a minus set for each role.
use Rattle.std.specs.Prelude.{get_or}
use Rattle.roles.specs.Sets.{empty_set}
use Rattle.model.specs.declared.Typing.{Typing as Table}
use Rattle.model.specs.Policy.{L}
use Rattle.model.specs.Typing.{Typing}

-- The element at a role's number; past the arrays, L and the empty sets.
unfoldable pub meaning : Table → Typing
meaning t = record {
  label = λ role. get_or t.labels role L;
  plus = λ role. get_or t.plus role empty_set;
  minus = λ role. get_or t.minus role empty_set;
}
