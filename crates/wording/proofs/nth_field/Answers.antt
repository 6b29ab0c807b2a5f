-- `nth_field` takes the word of its number, where there is one.
use Rattle.std.proofs.Common.{arith}
use Rattle.wording.specs.MentionLaws.{nth_known, nth_none, nth_zero, word_at, word_past, word_short}
use Rattle.wording.proofs.nth_field.Goals as goal

pub returns-in_default : goal.returns-in_default
returns-in_default c = let none = c.in_default.ensures in nth_zero _ (omega (arith, none))

pub word_field-requires : goal.word_field-requires
word_field-requires c =
    let got = c.in-Some-get.ensures.lookup in
    (word_short _ c.in-Some.place c.requires.short (word_at c.args.words.now c.in-Some.place c.in-Some-get.word.now got.3.0 got.1), c.requires.room)

pub returns-in-Some-get : goal.returns-in-Some-get
returns-in-Some-get c =
    let got = c.in-Some-get.ensures.lookup in
    nth_known _ c.args.which c.in-Some.ensures (word_at c.args.words.now c.in-Some.place c.in-Some-get.word.now got.3.0 got.1) c.word_field.ensures

pub returns-in-None : goal.returns-in-None
returns-in-None c = let got = c.in-None.ensures.lookup in nth_none _ c.args.which c.in-Some.ensures (word_past c.args.words.now c.in-Some.place got.3)
