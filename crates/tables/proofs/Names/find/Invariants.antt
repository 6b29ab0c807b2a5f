-- `find` goes through the table: the place of the name is the places passed and its place in what is left.
use Rattle.std.proofs.Common.{◌+◌, ◌-◌, ◌*◌, drop, ◌≡◌}
use Rattle.tables.specs.Names.{place_of, rows}
use Rattle.tables.proofs.Names.find.Given as goal

abbrev pub invariant-loop-place : goal.invariant-loop-place
invariant-loop-place l = place_of (rows l.self.count l.self.words.now) l.name ≡ l.place + place_of (rows (l.self.count - l.place) (drop (4 * l.place) l.self.words.now)) l.name
