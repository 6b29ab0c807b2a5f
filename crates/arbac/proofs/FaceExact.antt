-- What a C caller may rely on: 255 means that there was no room and 0 a success, every value is told or zero, the place of the bad line is its place, and no line is longer than 128 bytes.
use Rattle.std.specs.Prelude.{ℕ, ◌-◌, ◌≤◌, Bool, true, false, cond, List, ◌↔◌, ◌≡◌, refl, leb, ltb, length, take, drop, replicate}
use Rattle.std.proofs.Common.{leb-true, leb-false, le-leb, ltb-true, ltb-false, sym, ap, ◌∙◌, lit≤, length-append, arith}
use Rattle.std.proofs.Math.Seq.{drop-append_seam}
use Rattle.tables.specs.Padded.{padded}
use Rattle.ledgers.specs.Ledger.{ledger_words}
use Rattle.ledgers.specs.Memory.{no_memory, in_memory}
use Rattle.places.specs.declared.BadPlace.{BadPlace}
use Rattle.places.specs.Place.{bytes_at, bad_place, bad_line, bad_typing_place, bad_typing_line}
use Rattle.writing.specs.Written.{put}
use Rattle.writing.proofs.Buffers.{put-before}
use Rattle.writing.specs.Spelling.{decimal_length, spelled_length}
use Rattle.summing.specs.Outcome.{answer_in}
use Rattle.summing.specs.Sum as sum
use Rattle.merging.specs.declared.MergeAnswer.{MergeAnswer}
use Rattle.merging.specs.Merge as merge
use Rattle.scribing.specs.Spell as spell
use Rattle.answering.specs.declared.Answer.{Answer}
use Rattle.answering.specs.Answers.{number_of, answer_of}
use Rattle.showing.specs.Fields.{field}
use Rattle.printing.specs.Line.{line_of, check_line}
use Rattle.printing.specs.LineSteps.{part_length}
use Rattle.printing.specs.Program.{no_file, program_line}
use Rattle.telling.specs.Numbers.{place_text}
use Rattle.arbac.specs.Face.{no_room, room_for, told_number, told_in, IsSafe, safe, IsSummed, summed, IsMerged, merged, IsSpelled, spelled, Answered, lent_number, AnsweredLent}
use Rattle.arbac.specs.FaceNumbers.{check_numbered, sum_numbered, merge_numbered, spell_numbered}

-- ---- the number that is answered

-- a number that is told in an array, of which it is known when it is 0
told_so : {number : ℕ} {Success : Type 0} (width : ℕ) (array : List ℕ) → number ≤ 21 → number ≡ 0 ↔ Success → Answered width array Success (told_number width number array)
unfolding told_number room_for
told_so {number} {Success} width array listed zero = go (leb width (length array)) refl
  where
    go : (b : Bool) → leb width (length array) ≡ b → Answered width array Success (cond b number no_room)
    go true e =
        let room = leb-true width (length array) e in
        record {
          none_told = (λ none. absurd (omega (arith, none, listed)), λ short. absurd (omega (arith, room, short)));
          zero_told = (λ is. (room, zero.0 is), λ told. zero.1 told.1);
        }
    go false e =
        let short = leb-false width (length array) e in
        record { none_told = (λ none. short, λ less. refl); zero_told = (λ is. absurd (omega (arith, is)), λ told. absurd (omega (arith, short, told.0))) }

-- the same in lent memory
lent_so : {number : ℕ} {Success : Type 0} (needed width : ℕ) (memory array : List ℕ) → number ≤ 21 → number ≡ 0 ↔ Success → AnsweredLent needed width memory array Success (lent_number needed width number memory array)
unfolding lent_number told_number room_for in_memory
lent_so {number} {Success} needed width memory array listed zero = go (leb width (length array)) (ltb (length memory) needed) refl refl
  where
    go : (b few : Bool) → leb width (length array) ≡ b → ltb (length memory) needed ≡ few → AnsweredLent needed width memory array Success (cond b (cond few no_memory number) no_room)
    go true true e f =
        let room = leb-true width (length array) e in
        let short = ltb-true (length memory) needed f in
        record {
          none_told = (λ none. absurd (omega (arith, none)), λ less. absurd (omega (arith, room, less)));
          few_told = (λ is. (room, short), λ told. refl);
          zero_told = (λ is. absurd (omega (arith, is)), λ told. absurd (omega (arith, short, told.1)));
        }
    go true false e f =
        let room = leb-true width (length array) e in
        let enough = ltb-false (length memory) needed f in
        record {
          none_told = (λ none. absurd (omega (arith, none, listed)), λ less. absurd (omega (arith, room, less)));
          few_told = (λ is. absurd (omega (arith, is, listed)), λ told. absurd (omega (arith, enough, told.1)));
          zero_told = (λ is. (room, enough, zero.0 is), λ told. zero.1 told.2);
        }
    go false few e f =
        let short = leb-false width (length array) e in
        record {
          none_told = (λ none. short, λ less. refl);
          few_told = (λ is. absurd (omega (arith, is)), λ told. absurd (omega (arith, short, told.0)));
          zero_told = (λ is. absurd (omega (arith, is)), λ told. absurd (omega (arith, short, told.0)));
        }

-- the number of a success
safe_zero : {answer : Answer} → IsSafe answer → number_of answer ≡ 0
safe_zero (safe roles assigns revokes goals pinned) = refl

summed_zero : {answer : sum.SumAnswer} → IsSummed answer → sum.number_of answer ≡ 0
summed_zero (summed pinned written) = refl

merged_zero : {answer : MergeAnswer} → IsMerged answer → merge.number_of answer ≡ 0
merged_zero (merged roles assigns revokes goals pinned written) = refl

spelled_zero : {answer : spell.SpellAnswer} → IsSpelled answer → spell.number_of answer ≡ 0
spelled_zero (spelled written) = refl

-- `arbac_check` answers 0 only where the answer is SAFE,
pub check_told : (policy evidence array : List ℕ) → let answer = answer_of policy evidence in Answered 5 array (IsSafe answer) (told_number 5 (number_of answer) array)
check_told policy evidence array =
    let n = check_numbered policy evidence in
    told_so 5 array n.listed (n.zero_only, safe_zero)

-- `arbac_sum` and `arbac_merge` where the sum is written,
pub sum_told_lem : (policy first second : List ℕ) (room : ℕ) (array : List ℕ) → let answer = answer_in (sum.sum_outcome policy first second room) in Answered 2 array (IsSummed answer) (told_number 2 (sum.number_of answer) array)
sum_told_lem policy first second room array =
    let n = sum_numbered policy first second room in
    told_so 2 array n.listed (n.zero_only, summed_zero)

pub merge_told_lem : (policy₁ typing₁ policy₂ typing₂ : List ℕ) (room : ℕ) (array : List ℕ) → let answer = answer_in (merge.merge_outcome policy₁ typing₁ policy₂ typing₂ room) in Answered 6 array (IsMerged answer) (told_number 6 (merge.number_of answer) array)
merge_told_lem policy₁ typing₁ policy₂ typing₂ room array =
    let n = merge_numbered policy₁ typing₁ policy₂ typing₂ room in
    told_so 6 array n.listed (n.zero_only, merged_zero)

-- `arbac_spell` where the spelling is,
pub spell_told_lem : (policy : List ℕ) (room : ℕ) (array : List ℕ) → let answer = answer_in (spell.spell_outcome policy room) in Answered 1 array (IsSpelled answer) (told_number 1 (spell.number_of answer) array)
spell_told_lem policy room array =
    let n = spell_numbered policy room in
    told_so 1 array n.listed (n.zero_only, spelled_zero)

-- in lent memory too,
pub check_lent : (policy evidence memory array : List ℕ) → let answer = answer_of policy evidence in AnsweredLent ledger_words 5 memory array (IsSafe answer) (lent_number ledger_words 5 (number_of answer) memory array)
check_lent policy evidence memory array =
    let n = check_numbered policy evidence in
    lent_so ledger_words 5 memory array n.listed (n.zero_only, safe_zero)

pub sum_lent : (policy first second : List ℕ) (room : ℕ) (memory array : List ℕ) → let answer = answer_in (sum.sum_outcome policy first second room) in
    AnsweredLent ledger_words 2 memory array (IsSummed answer) (lent_number ledger_words 2 (sum.number_of answer) memory array)
sum_lent policy first second room memory array =
    let n = sum_numbered policy first second room in
    lent_so ledger_words 2 memory array n.listed (n.zero_only, summed_zero)

pub merge_lent : (policy₁ typing₁ policy₂ typing₂ : List ℕ) (room : ℕ) (memory array : List ℕ) → let answer = answer_in (merge.merge_outcome policy₁ typing₁ policy₂ typing₂ room) in
    AnsweredLent merge.merge_words 6 memory array (IsMerged answer) (lent_number merge.merge_words 6 (merge.number_of answer) memory array)
merge_lent policy₁ typing₁ policy₂ typing₂ room memory array =
    let n = merge_numbered policy₁ typing₁ policy₂ typing₂ room in
    lent_so merge.merge_words 6 memory array n.listed (n.zero_only, merged_zero)

pub spell_lent : (policy : List ℕ) (room : ℕ) (memory array : List ℕ) → let answer = answer_in (spell.spell_outcome policy room) in AnsweredLent ledger_words 1 memory array (IsSpelled answer) (lent_number ledger_words 1 (spell.number_of answer) memory array)
spell_lent policy room memory array =
    let n = spell_numbered policy room in
    lent_so ledger_words 1 memory array n.listed (n.zero_only, spelled_zero)

-- and the functions that tell a place never.
pub bad_place-told : (place : BadPlace) (array : List ℕ) → Answered 2 array ⊥ (told_number 2 (place_text place) array)
unfolding place_text
bad_place-told place array = go place.evidence
  where
    go : (b : Bool) → Answered 2 array ⊥ (told_number 2 (cond b 2 1) array)
    go true = told_so 2 array (lit≤ tt) (λ is. omega (arith, is), λ never. absurd never)
    go false = told_so 2 array (lit≤ tt) (λ is. omega (arith, is), λ never. absurd never)

-- ---- the values that are told

-- An array with room begins with all the values, whatever stood there before.
pub told_values : {width : ℕ} (values array : List ℕ) → length values ≡ width → width ≤ length array → take width (told_in width values array) ≡ values
unfolding told_in room_for
told_values {width} values array all room =
    ap (λ (b : Bool). take width (cond b (put values array) array)) (le-leb width (length array) room) ∙ ap (λ (k : ℕ). take k (put values array)) (sym all) ∙ put-before values array

-- Past the values that document 01 names there are only zeros.
pub zeros_past : (width : ℕ) (values : List ℕ) → drop (length values) (padded width 0 values) ≡ replicate (width - length values) 0
unfolding padded
zeros_past width values = drop-append_seam values (replicate (width - length values) 0)

-- The bytes that a place tells, so many from where it begins in its text, are those at the place.
pub place-bytes : (policy evidence : List ℕ) (place : BadPlace) → take (place.to - place.from) (drop place.from (cond place.evidence evidence policy)) ≡ bytes_at policy evidence place
place-bytes policy evidence place = go place.evidence
  where
    go : (b : Bool)
        → take (place.to - place.from) (drop place.from (cond b evidence policy))
        ≡ cond b (take (place.to - place.from) (drop place.from evidence)) (take (place.to - place.from) (drop place.from policy))
    go true = refl
    go false = refl

-- So the bytes that `arbac_bad_line` tells are the bad line,
pub bad_bytes : (policy evidence : List ℕ) → let place = bad_place policy evidence in take (place.to - place.from) (drop place.from (cond place.evidence evidence policy)) ≡ bad_line policy evidence
unfolding bad_line
bad_bytes policy evidence = place-bytes policy evidence (bad_place policy evidence)

-- and those that `arbac_bad_typing_line` tells are the bad line where a typing is wanted.
pub bad_typing_bytes : (policy typing : List ℕ) → let place = bad_typing_place policy typing in take (place.to - place.from) (drop place.from (cond place.evidence typing policy)) ≡ bad_typing_line policy typing
unfolding bad_typing_line
bad_typing_bytes policy typing = place-bytes policy typing (bad_typing_place policy typing)

-- ---- the line

-- Every line of `check` fits into 128 bytes.
line_length_lem : (answer : Answer) → length (line_of answer) ≤ 128
unfolding line_of field
line_length_lem (Answer.Safe roles assigns revokes goals pinned) =
    simp length-append (omega (arith, decimal_length roles, decimal_length assigns, decimal_length revokes, decimal_length goals, decimal_length pinned))
line_length_lem (Answer.Attacked steps user name goal) = simp length-append (omega (arith, decimal_length steps, spelled_length name, decimal_length goal))
line_length_lem (Answer.Unproved part number) = simp length-append (omega (arith, part_length part, decimal_length number))
line_length_lem (Answer.Broken step) = simp length-append (omega (arith, decimal_length step))
line_length_lem (Answer.Short steps) = simp length-append (omega (arith, decimal_length steps))
line_length_lem (Answer.Refused refusal) = simp length-append (omega (arith, decimal_length refusal.number, decimal_length refusal.line))

pub line_longest : (policy evidence : List ℕ) → length (check_line policy evidence) ≤ 128
unfolding check_line
line_longest policy evidence = line_length_lem _

-- The same of the line that the program prints, NOFILE among them.
pub program_longest : (policyRead : Bool) (policy : List ℕ) (evidenceRead : Bool) (evidence : List ℕ) → length (program_line policyRead policy evidenceRead evidence) ≤ 128
unfolding program_line no_file field
program_longest false policy evidenceRead evidence = lit≤ tt
program_longest true policy false evidence = lit≤ tt
program_longest true policy true evidence = line_longest policy evidence
