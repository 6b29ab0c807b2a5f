-- How an answer and the place of the bad line are told: a number is answered, and the values stand in a lent array.
use Rattle.std.specs.Prelude.{ℕ, ◌-◌, ◌<◌, cond, List, [], ◌∷◌, ◌≡◌}
use Rattle.tables.specs.declared.Name.{Name}
use Rattle.tables.specs.Padded.{padded}
use Rattle.places.specs.declared.BadPlace.{BadPlace}
use Rattle.writing.specs.Written.{put}
use Rattle.summing.specs.Sum.{SumAnswer}
use Rattle.summing.specs.Sum as sum
use Rattle.merging.specs.declared.MergeAnswer.{MergeAnswer}
use Rattle.merging.specs.Merge as merge
use Rattle.scribing.specs.Spell.{SpellAnswer}
use Rattle.scribing.specs.Spell as spell
use Rattle.answering.specs.declared.Answer.{Answer}
use Rattle.answering.specs.Answers.{values_of}

-- The values of an answer, in the order of document 01's table, as many as the longest answer has: fields not named are zero.
unfoldable pub check_values : Answer → List ℕ
check_values answer = padded 5 0 (values_of answer)

unfoldable pub sum_values : SumAnswer → List ℕ
sum_values answer = padded 2 0 (sum.values_of answer)

unfoldable pub merge_values : MergeAnswer → List ℕ
merge_values answer = padded 6 0 (merge.values_of answer)

unfoldable pub spell_values : SpellAnswer → List ℕ
spell_values answer = padded 1 0 (spell.values_of answer)

-- The text that a bad line stands in: 1 the policy, 2 the evidence.
unfoldable pub place_text : BadPlace → ℕ
place_text place = cond place.evidence 2 1

-- Where the line begins in it, and its length without the LF.
unfoldable pub place_values : BadPlace → List ℕ
place_values place = place.from ∷ (place.to - place.from) ∷ []

-- A number is answered, and the values are put at the start of an array, which is now `after`.
pub record Told (number : ℕ) (values array : List ℕ) (answered : ℕ) (after : List ℕ) : Type 0 where
  pub says : answered ≡ number
  pub held : after ≡ put values array

-- Where an answer is ATTACKED, its user is one of 64 at most.
pub record UserListed (answer : Answer) : Type 0 where
  pub below : (steps user : ℕ) (name : Name) (goal : ℕ) → answer ≡ Answer.Attacked steps user name goal → user < 64
