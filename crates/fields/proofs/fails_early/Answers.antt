-- `fails_early` asks whether the names up to a comma make a set.
use Rattle.std.proofs.lemmas.Bool.{not-true, false≢true}
use Rattle.std.proofs.Common.{length-take, length-take-le, sym, ◌∙◌, arith}
use Rattle.fields.specs.Sets.{start_fails}
use Rattle.fields.proofs.fails_early.Goals as goal

pub returns-then-field-lt1024 : goal.returns-then-field-lt1024
returns-then-field-lt1024 c = λ told. absurd (false≢true told)

pub slice_bounds-are_set-end : goal.slice_bounds-are_set-end
slice_bounds-are_set-end c = sym (length-take-le c.seek-cut.result c.args.field.now c.seek-cut.ensures.within)

pub are_set-requires : goal.are_set-requires
are_set-requires c = omega (arith, length-take c.seek-cut.result c.args.field.now)

pub returns : goal.returns
returns c = λ told. start_fails _ 1024 _ c.seek-cut.ensures (sym c.are_set.ensures ∙ not-true c.are_set.result told)
