-- The user of an answer as it is told, and how a number and values are told in a lent array, with room and without.
use Rattle.std.specs.Prelude.{ℕ, ◌≤◌, ◌<◌, Bool, List, ◌≡◌, ltb, length}
use borrow.Author.Tests.{lt-leb, le-leb}
use Rattle.std.proofs.Math.Bool.{true, false, cond}
use Rattle.std.proofs.Math.Path.{refl, sym}
use Rattle.std.proofs.Common.{ap, subst, ◌∙◌, arith}
use Rattle.steps.proofs.PlaceLaws.{at_inside}
use Rattle.reading.specs.Sound.{read_sound}
use Rattle.ledgers.specs.Memory.{no_memory, in_memory}
use Rattle.ledgers.specs.MemoryLaws.{memory_short, memory_enough}
use Rattle.writing.specs.Written.{put}
use Rattle.summing.specs.Outcome.{Outcome, answer_in, buffer_after, Meets}
use Rattle.summing.specs.Meeting.{meets_as}
use Rattle.answering.specs.declared.Answer.{Answer}
use Rattle.answering.specs.Answers.{answer_of}
use Rattle.running.specs.Named.{names_most}
use Rattle.answering.proofs.AnswerExact.{attacked_exact}
use Rattle.telling.specs.Numbers.{Told, UserListed}
use Rattle.arbac.specs.Face.{no_room, room_for, told_number, told_in, buffer_told, lent_number, lent_in, buffer_lent}

-- ---- the user of ATTACKED

pub user_listed : (policy evidence : List ℕ) {answer : Answer} → answer ≡ answer_of policy evidence → UserListed answer
user_listed policy evidence is = record {
  below = λ steps user name goal attacked.
      let texts = (attacked_exact policy evidence steps user name goal).0 (sym is ∙ attacked) in
      omega (arith, at_inside texts.holds.named, names_most texts.said evidence texts.holds.reads (read_sound policy texts.reads).users.most);
}

-- ---- told in a lent array

-- what is told of an answer is told of its equal
pub told_as : {A : Type 0} (number_of : A → ℕ) (values_of : A → List ℕ) {answer other : A} {array after : List ℕ} {answered : ℕ} → answer ≡ other → Told (number_of answer) (values_of answer) array answered after
    → Told (number_of other) (values_of other) array answered after
told_as number_of values_of {array = array} {after} {answered} same t = subst (λ answer. Told (number_of answer) (values_of answer) array answered after) same t

-- an array without room is left as it is, and 255 is answered
pub no_room_lem : (width number : ℕ) (values array : List ℕ) → length array < width → (no_room ≡ told_number width number array) × (array ≡ told_in width values array)
unfolding told_number told_in room_for
no_room_lem width number values array short =
    let no = lt-leb width (length array) short in
    (sym (ap (λ (b : Bool). cond b number no_room) no), sym (ap (λ (b : Bool). cond b (put values array) array) no))

-- in an array with room the values are put, and the number is answered
pub with_room : (width : ℕ) {number answered : ℕ} {values array after : List ℕ} → width ≤ length array → Told number values array answered after → (answered ≡ told_number width number array) × (after ≡ told_in width values array)
unfolding told_number told_in room_for
with_room width {number} {values = values} {array = array} room t =
    let yes = le-leb width (length array) room in
    (t.says ∙ sym (ap (λ (b : Bool). cond b number no_room) yes), t.held ∙ sym (ap (λ (b : Bool). cond b (put values array) array) yes))

-- the same where a text is written too
module _ {A : Type 0} (number_of : A → ℕ) (values_of : A → List ℕ) (width : ℕ) (outcome : Outcome A) (buffer array : List ℕ) where
  pub no_room_outcome : length array < width
      → (no_room ≡ told_number width (number_of (answer_in outcome)) array) × ((array ≡ told_in width (values_of (answer_in outcome)) array) × (buffer ≡ buffer_told width array outcome buffer))
  unfolding buffer_told room_for
  no_room_outcome short =
      let none = no_room_lem width (number_of (answer_in outcome)) (values_of (answer_in outcome)) array short in
      (none.0, (none.1, sym (ap (λ (b : Bool). cond b (buffer_after outcome buffer) buffer) (lt-leb width (length array) short))))

  pub with_room_outcome : {answer : A} {answered : ℕ} {after filled : List ℕ} → width ≤ length array → Meets outcome buffer answer filled → Told (number_of answer) (values_of answer) array answered after
      → (answered ≡ told_number width (number_of (answer_in outcome)) array) × ((after ≡ told_in width (values_of (answer_in outcome)) array) × (filled ≡ buffer_told width array outcome buffer))
  unfolding buffer_told room_for
  with_room_outcome room met t =
      let all = with_room width room (told_as number_of values_of met.answered t) in
      (all.0, (all.1, met.left ∙ sym (ap (λ (b : Bool). cond b (buffer_after outcome buffer) buffer) (le-leb width (length array) room))))

-- ---- in lent memory

module _ (needed width : ℕ) (memory array : List ℕ) where
  -- an array without room: nothing is told, whatever the memory
  pub no_room_lent : (number : ℕ) (values : List ℕ) → length array < width → (no_room ≡ lent_number needed width number memory array) × (array ≡ lent_in needed width values memory array)
  unfolding lent_number lent_in in_memory
  no_room_lent number values short = ((no_room_lem width _ values array short).0, go (ltb (length memory) needed))
    where
      go : (b : Bool) → array ≡ cond b array (told_in width values array)
      go true = refl
      go false = (no_room_lem width number values array short).1

  -- too few words: 254, and nothing is told
  pub few_lent : (number : ℕ) (values : List ℕ) → width ≤ length array → length memory < needed → (no_memory ≡ lent_number needed width number memory array) × (array ≡ lent_in needed width values memory array)
  unfolding lent_number lent_in told_number room_for
  few_lent number values room few =
      (rw (memory_short needed (length memory) no_memory number few, le-leb width (length array) room), sym (memory_short needed (length memory) array (told_in width values array) few))

  -- enough of both: told as in memory of its own
  pub told_lent : {number answered : ℕ} {values after : List ℕ} → width ≤ length array → needed ≤ length memory → Told number values array answered after
      → (answered ≡ lent_number needed width number memory array) × (after ≡ lent_in needed width values memory array)
  unfolding lent_number lent_in
  told_lent {number} {values = values} room enough t =
      let told = with_room width room t in (
        told.0 ∙ sym (ap (λ (n : ℕ). told_number width n array) (memory_enough needed (length memory) no_memory number enough)),
        told.1 ∙ sym (memory_enough needed (length memory) array (told_in width values array) enough),
      )

  -- the same where a text is written too
  module _ {A : Type 0} (number_of : A → ℕ) (values_of : A → List ℕ) (outcome : Outcome A) (buffer : List ℕ) where
    -- what is told of an outcome, and the buffer afterwards
    abbrev OutcomeTold : (answered : ℕ) (after filled : List ℕ) → Type 0
    OutcomeTold answered after filled =
        (answered ≡ lent_number needed width (number_of (answer_in outcome)) memory array) × ((after ≡ lent_in needed width (values_of (answer_in outcome)) memory array) × (filled ≡ buffer_lent needed width memory array outcome buffer))

    pub no_room_lent_outcome : length array < width → OutcomeTold no_room array buffer
    unfolding buffer_lent in_memory
    no_room_lent_outcome short =
        let none = no_room_lent (number_of (answer_in outcome)) (values_of (answer_in outcome)) short in
        (none.0, (none.1, go (ltb (length memory) needed)))
      where
        go : (b : Bool) → buffer ≡ cond b buffer (buffer_told width array outcome buffer)
        go true = refl
        go false = (no_room_outcome number_of values_of width outcome buffer array short).1.1

    pub few_lent_outcome : width ≤ length array → length memory < needed → OutcomeTold no_memory array buffer
    unfolding buffer_lent
    few_lent_outcome room few =
        let told = few_lent (number_of (answer_in outcome)) (values_of (answer_in outcome)) room few in
        (told.0, (told.1, sym (memory_short needed (length memory) buffer (buffer_told width array outcome buffer) few)))

    pub told_lent_outcome : (tooFew : Outcome A) {answer : A} {answered : ℕ} {after filled : List ℕ} → width ≤ length array → needed ≤ length memory
        → Meets (in_memory needed (length memory) tooFew outcome) buffer answer filled → Told (number_of answer) (values_of answer) array answered after → OutcomeTold answered after filled
    unfolding buffer_lent
    told_lent_outcome tooFew room enough met t =
        let meets = meets_as (sym (memory_enough needed (length memory) tooFew outcome enough)) met in
        let told = told_lent room enough (told_as number_of values_of meets.answered t) in
        (told.0, (told.1, (with_room_outcome number_of values_of width outcome buffer array room meets t).1.1 ∙ sym (memory_enough needed (length memory) buffer (buffer_told width array outcome buffer) enough)))
