-- `word` packs from the last byte to the first: the number is that of the bytes passed.
use Rattle.std.proofs.Common.{◌-◌, ◌^◌, ◌≤◌, ◌<◌, length, drop, ◌≡◌}
use Rattle.tables.specs.Names.{value}
use Rattle.tables.proofs.word.Given as goal

abbrev pub invariant-loop-i : goal.invariant-loop-i
invariant-loop-i l = (l.i ≤ length l.part) × (l.n < 256 ^ (8 - l.i)) × (l.n ≡ value (drop l.i l.part))
