-- `write_label` writes the field of the label that it is given.
use Rattle.spelling.specs.TypingText.{label_text}
use Rattle.spelling.specs.TypingPieces.{label_field}
use Rattle.spelling.proofs.write_label.Goals as goal

pub write_bytes-requires : goal.write_bytes-requires
unfolding label_field label_text
write_bytes-requires c = rw c.if-label.true at c.requires

pub returns-then-label : goal.returns-then-label
unfolding label_field label_text
returns-then-label c = rw c.if-label.true c.write_bytes.ensures

pub write_bytes-requires-2 : goal.write_bytes-requires-2
unfolding label_field label_text
write_bytes-requires-2 c = rw c.if-label.false at c.requires

pub returns : goal.returns
unfolding label_field label_text
returns c = rw c.if-label.false c.write_bytes-2.ensures
