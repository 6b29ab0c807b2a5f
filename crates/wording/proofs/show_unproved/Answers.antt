-- `show_unproved` makes the line apart and shows it.
use Rattle.std.proofs.Common.{ℕ, ◌++◌, replicate, arith}
use Rattle.std.proofs.lemmas.List.{length-replicate}
use Rattle.text.specs.Forms.{bytes}
use Rattle.writing.specs.Written.{decimal}
use Rattle.showing.specs.Fields.{field}
use Rattle.showing.specs.Steps.{Line, line_both, taken, taken_length}
use Rattle.showing.specs.Showing.{shows_as}
use Rattle.printing.specs.Line.{part_text}
use Rattle.wording.specs.declared.Mention.{Mention}
use Rattle.wording.specs.Mentions.{mention_field}
use Rattle.wording.proofs.show_unproved.Goals as goal

pub slice_bounds-show_line-end : goal.slice_bounds-show_line-end
slice_bounds-show_line-end c =
    let made : Line (bytes "UNPROVED" ++ field (part_text c.args.part) ++ field (decimal c.args.number) ++ mention_field Mention.Judging c.args.which ++ bytes "\n") 63 (replicate 192 0) c.end_with-length.result c.end_with-length.new.out = line_both (mention_field Mention.Judging c.args.which) (bytes "\n") c.begin_unproved-at.ensures c.end_with-length.ensures (omega (arith, length-replicate {A = ℕ} 192 0)) in
    taken_length made

pub returns : goal.returns
returns c =
    let made : Line (bytes "UNPROVED" ++ field (part_text c.args.part) ++ field (decimal c.args.number) ++ mention_field Mention.Judging c.args.which ++ bytes "\n") 63 (replicate 192 0) c.end_with-length.result c.end_with-length.new.out = line_both (mention_field Mention.Judging c.args.which) (bytes "\n") c.begin_unproved-at.ensures c.end_with-length.ensures (omega (arith, length-replicate {A = ℕ} 192 0)) in
    shows_as c.args.line.now (taken made) c.show_line.ensures
