-- What a C caller is told: a number, which the function answers, and values at the start of a lent array.
use Rattle.std.specs.Prelude.{ℕ, ◌≤◌, ◌<◌, Bool, cond, List, ◌↔◌, ◌≡◌, leb, length}
use Rattle.writing.specs.Written.{put}
use Rattle.ledgers.specs.Memory.{no_memory, in_memory}
use Rattle.summing.specs.Outcome.{Outcome, buffer_after}
use Rattle.summing.specs.Sum as sum
use Rattle.merging.specs.declared.MergeAnswer.{MergeAnswer}
use Rattle.scribing.specs.Spell as spell
use Rattle.answering.specs.declared.Answer.{Answer}

-- The number that is no answer and no text.
abbrev pub no_room : ℕ
no_room = 255

-- A lent array has room for so many values.
unfoldable pub room_for : (width : ℕ) (array : List ℕ) → Bool
room_for width array = leb width (length array)

-- What is answered: the number, or 255 where the array has no room.
unfoldable pub told_number : (width number : ℕ) (array : List ℕ) → ℕ
told_number width number array = cond (room_for width array) number no_room

-- The array afterwards: the values at its start, and past them as it was; all of it as it was where it has no room.
unfoldable pub told_in : (width : ℕ) (values array : List ℕ) → List ℕ
told_in width values array = cond (room_for width array) (put values array) array

-- The lent buffer of a text afterwards: nothing is written either where the array has no room.
unfoldable pub buffer_told : {A : Type 0} → (width : ℕ) (array : List ℕ) → Outcome A → List ℕ → List ℕ
buffer_told width array outcome buffer = cond (room_for width array) (buffer_after outcome buffer) buffer

-- ---- the same in lent memory, of which so many words are needed

-- What is answered: 255 where the array has no room, then 254 where the memory has too few words, else the number.
unfoldable pub lent_number : (needed width number : ℕ) (memory array : List ℕ) → ℕ
lent_number needed width number memory array = told_number width (in_memory needed (length memory) no_memory number) array

-- The array and the lent buffer afterwards: as they were also where the memory has too few words.
unfoldable pub lent_in : (needed width : ℕ) (values memory array : List ℕ) → List ℕ
lent_in needed width values memory array = in_memory needed (length memory) array (told_in width values array)

unfoldable pub buffer_lent : {A : Type 0} → (needed width : ℕ) (memory array : List ℕ) → Outcome A → List ℕ → List ℕ
buffer_lent needed width memory array outcome buffer = in_memory needed (length memory) buffer (buffer_told width array outcome buffer)

-- ---- what a number says

-- The answer is SAFE.
pub data IsSafe : Answer → Type 0 where
  safe : (roles assigns revokes goals pinned : ℕ) → IsSafe (Answer.Safe roles assigns revokes goals pinned)

-- The sum is written.
pub data IsSummed : sum.SumAnswer → Type 0 where
  summed : (pinned written : ℕ) → IsSummed (sum.sum_made pinned written)

-- The sum of a merge is written.
pub data IsMerged : MergeAnswer → Type 0 where
  merged : (roles assigns revokes goals pinned written : ℕ) → IsMerged (MergeAnswer.Merged roles assigns revokes goals pinned written)

-- The spelling is written.
pub data IsSpelled : spell.SpellAnswer → Type 0 where
  spelled : (written : ℕ) → IsSpelled (spell.spelled written)

-- What is answered is 255 exactly where the array has no room, and 0 exactly where it has room and the answer is a success.
pub record Answered (width : ℕ) (array : List ℕ) (Success : Type 0) (answered : ℕ) : Type 0 where
  pub none_told : answered ≡ no_room ↔ length array < width
  pub zero_told : answered ≡ 0 ↔ (width ≤ length array) × Success

-- In lent memory 254 is answered exactly where the array has room and the memory too few words, and 0 exactly where there is enough of
-- both and the answer is a success.
pub record AnsweredLent (needed width : ℕ) (memory array : List ℕ) (Success : Type 0) (answered : ℕ) : Type 0 where
  pub none_told : answered ≡ no_room ↔ length array < width
  pub few_told : answered ≡ no_memory ↔ (width ≤ length array) × (length memory < needed)
  pub zero_told : answered ≡ 0 ↔ (width ≤ length array) × (needed ≤ length memory) × Success
