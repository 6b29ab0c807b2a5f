-- `begin_unproved` puts the number behind the words.
use Rattle.std.proofs.Common.{length, ap, arith}
use Rattle.showing.specs.Fields.{field}
use Rattle.printing.specs.LineSteps.{unproved_begun, part_length}
use Rattle.printing.proofs.begin_unproved.Goals as goal

pub begin_line-requires : goal.begin_line-requires
unfolding field
begin_line-requires c = (omega (arith, ap length c.unproved_words.ensures, part_length c.args.part), omega arith)

pub returns : goal.returns
returns c = unproved_begun c.args.part c.args.number c.unproved_words.ensures c.begin_line.ensures
