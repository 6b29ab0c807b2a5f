-- The closure of a pair of role sets, computed by rounds.
use Rattle.std.specs.Prelude.{ℕ, zero, suc, Bool, cond, ◌&&◌}
use Rattle.roles.specs.Sets.{union_of, same_set}
use Rattle.sheets.specs.Turned.{sets_of, Turned}
use Rattle.closing.specs.declared.Pair.{Pair}

-- One round: every clause applied at once to the pair as it stood.
-- (a) a held role's plus set is held;
-- (b) a held role's minus set is absent;
-- (c) a role whose plus set shares a role with absent is absent: all those that have an absent role in their plus set.
unfoldable pub round_of : Turned → Pair → Pair
round_of said pair = record {
  held = union_of pair.held (sets_of said.plus pair.held);
  absent = union_of (union_of pair.absent (sets_of said.minus pair.held)) (sets_of said.needed pair.absent);
}

-- the two pairs have the same sets
unfoldable pub same_pair : Pair → Pair → Bool
same_pair p q = same_set p.held q.held && same_set p.absent q.absent

-- rounds until one changes nothing, and at most so many
unfoldable pub rounds_of : ℕ → Turned → Pair → Pair
rounds_of zero said pair = pair
rounds_of (suc most) said pair =
    let next = round_of said pair in
    let rest = rounds_of most said next in
    cond (same_pair pair next) pair rest

-- how many of those rounds changed something
unfoldable pub changes_of : ℕ → Turned → Pair → ℕ
changes_of zero said pair = zero
changes_of (suc most) said pair =
    let next = round_of said pair in
    let rest = suc (changes_of most said next) in
    cond (same_pair pair next) zero rest

-- The closure: rounds until nothing changes. 256 are enough for two sets of 128 roles.
unfoldable pub close_of : Turned → Pair → Pair
close_of said pair = rounds_of 256 said pair
