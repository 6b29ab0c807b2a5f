-- `show` makes the line apart and shows it.
use Rattle.std.proofs.Common.{ℕ, ◌+◌, ◌*◌, ◌++◌, length, replicate, arith}
use Rattle.std.proofs.lemmas.List.{length-replicate}
use Rattle.text.specs.Forms.{bytes}
use Rattle.showing.specs.Fields.{fields_on}
use Rattle.showing.specs.Steps.{Line, line_both, taken, taken_length}
use Rattle.showing.specs.Showing.{shows_as}
use Rattle.wording.specs.Mentions.{mention_field}
use Rattle.wording.proofs.show.Goals as goal

pub slice_bounds-show_line-end : goal.slice_bounds-show_line-end
slice_bounds-show_line-end c =
    let made : Line (fields_on c.args.word.now c.args.numbers.now ++ mention_field c.args.mention c.args.which ++ bytes "\n") (20 + 21 * length c.args.numbers.now + 22) (replicate 192 0) c.end_with-length.result c.end_with-length.new.out = line_both (mention_field c.args.mention c.args.which) (bytes "\n") c.begin_line-at.ensures c.end_with-length.ensures (omega (arith, length-replicate {A = ℕ} 192 0, c.requires.1)) in
    taken_length made

pub returns : goal.returns
returns c =
    let made : Line (fields_on c.args.word.now c.args.numbers.now ++ mention_field c.args.mention c.args.which ++ bytes "\n") (20 + 21 * length c.args.numbers.now + 22) (replicate 192 0) c.end_with-length.result c.end_with-length.new.out = line_both (mention_field c.args.mention c.args.which) (bytes "\n") c.begin_line-at.ensures c.end_with-length.ensures (omega (arith, length-replicate {A = ℕ} 192 0, c.requires.1)) in
    shows_as c.args.line.now (taken made) c.show_line.ensures
