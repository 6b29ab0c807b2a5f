-- `name_length` adds the lengths of the four words, 32 bytes at most.
use Rattle.std.proofs.Common.{arith}
use Rattle.writing.specs.Spelling.{spelled-parts, spelled_length}
use Rattle.writing.proofs.names.name_length.Goals as goal

pub overflow_add-result : goal.overflow_add-result
overflow_add-result c = omega (arith, spelled-parts c.args.name, spelled_length c.args.name)

pub overflow_add-result-2 : goal.overflow_add-result-2
overflow_add-result-2 c = omega (arith, spelled-parts c.args.name, spelled_length c.args.name)

pub overflow_add-result-3 : goal.overflow_add-result-3
overflow_add-result-3 c = omega (arith, spelled-parts c.args.name, spelled_length c.args.name)

pub returns : goal.returns
returns c = omega (arith, spelled-parts c.args.name)
