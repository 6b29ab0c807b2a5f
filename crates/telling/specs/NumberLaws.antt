-- The number of a text that is told, and that every answer of a function has as many values.
use Rattle.std.specs.Prelude.{◌+◌, Bool, true, false, cond, ◌≡◌, refl, length, Ok, Err}
use mir.Val.{bool_byte}
use Rattle.tables.specs.Padded.{padded}
use Rattle.summing.specs.Sum.{SumAnswer}
use Rattle.merging.specs.declared.MergeAnswer.{MergeAnswer}
use Rattle.scribing.specs.Spell.{SpellAnswer}
use Rattle.answering.specs.declared.Answer.{Answer}
use Rattle.telling.specs.Numbers.{check_values, sum_values, merge_values, spell_values}

-- the number of a text, as it is computed
pub text_number : (b : Bool) → bool_byte b + 1 ≡ cond b 2 1
text_number true = refl
text_number false = refl

-- Every answer has 5, 2, 6 and 1 values.
pub check_width : (answer : Answer) → length (check_values answer) ≡ 5
unfolding check_values padded
check_width (Answer.Safe roles assigns revokes goals pinned) = refl
check_width (Answer.Attacked steps user name goal) = refl
check_width (Answer.Unproved part number) = refl
check_width (Answer.Broken step) = refl
check_width (Answer.Short steps) = refl
check_width (Answer.Refused refusal) = refl

pub sum_width : (answer : SumAnswer) → length (sum_values answer) ≡ 2
unfolding sum_values padded
sum_width (Ok done) = refl
sum_width (Err failed) = refl

pub merge_width : (answer : MergeAnswer) → length (merge_values answer) ≡ 6
unfolding merge_values padded
merge_width (MergeAnswer.Merged roles assigns revokes goals pinned written) = refl
merge_width (MergeAnswer.Unproved which failure) = refl
merge_width (MergeAnswer.Refused which refusal) = refl

pub spell_width : (answer : SpellAnswer) → length (spell_values answer) ≡ 1
unfolding spell_values padded
spell_width (Ok written) = refl
spell_width (Err refusal) = refl
