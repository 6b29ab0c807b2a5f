-- The names that a table holds.
use Rattle.std.specs.Prelude.{List}
use Rattle.tables.specs.declared.Name.{Name}
use Rattle.tables.specs.declared.Names.{Names}
use Rattle.tables.specs.Names.{rows}

-- its first names, as many as it counts
abbrev pub rows_of : Names → List Name
rows_of names = rows names.count names.words.now
