-- `begin_line` puts the word, and the numbers past it.
use Rattle.showing.specs.Steps.{line_word, line_numbers}
use Rattle.showing.proofs.begin_line.Goals as goal

pub returns : goal.returns
returns c = line_numbers (line_word 20 c.requires.0 c.write_bytes-at.ensures) c.number_fields.ensures c.requires.1
