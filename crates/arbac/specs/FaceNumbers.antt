-- Which numbers answers have: 10 to 19 are refusals, so that no refusal has the number of a verdict, of success or of no room.
use Rattle.std.specs.Prelude.{ℕ, ◌≤◌, Bool, true, false, cond, List, ◌≡◌, refl, leb, length, Ok, Err}
use Rattle.std.proofs.Common.{⊎_elim, lit≤, arith}
use Rattle.model.specs.declared.Typing.{Typing as Table}
use Rattle.tables.specs.declared.Name.{Name}
use Rattle.walking.specs.Texts.{Reading, read, refused}
use Rattle.reading.specs.Policy.{Said, read_policy}
use Rattle.reading.specs.PolicyExact.{policy_refusal_exact}
use Rattle.typings.specs.TypingText.{read_typing, table_of}
use Rattle.typings.specs.TypingRefusalExact.{typing_refusal_exact}
use Rattle.judging.specs.Verdict.{TypingVerdict, typing_verdict, rules_verdict, pinned_names}
use Rattle.spelling.specs.TypingText.{typing_text}
use Rattle.summing.specs.Sums.{sum_of}
use Rattle.summing.specs.Outcome.{Outcome, leaves, writes, answer_in, when_read, fits}
use Rattle.summing.specs.Sum as sum
use Rattle.merging.specs.declared.MergeAnswer.{MergeAnswer}
use Rattle.merging.specs.Directory.{same_directory}
use Rattle.merging.specs.Merge as merge
use Rattle.drafting.specs.PolicyText.{policy_text}
use Rattle.scribing.specs.Spell as spell
use Rattle.answering.specs.declared.Answer.{Answer}
use Rattle.answering.specs.Answers.{number_of, answer_of}
use Rattle.answering.specs.CheckRules.{TextNumber}
use Rattle.answering.proofs.Refusals.{policy_number, evidence_number, refused_number}
use Rattle.arbac.specs.Face.{IsSafe, safe, IsSummed, summed, IsMerged, merged, IsSpelled, spelled}

-- ---- of any answer

-- An answer's number is one of the documents', and 0 only where it is a success.
pub record Numbered {A : Type 0} (number_of : A → ℕ) (Success : A → Type 0) (answer : A) : Type 0 where
  pub listed : number_of answer ≤ 21
  pub zero_only : number_of answer ≡ 0 → Success answer

-- an answer with another number than 0
other : {A : Type 0} {number_of : A → ℕ} {Success : A → Type 0} {answer : A} → 1 ≤ number_of answer → number_of answer ≤ 21 → Numbered number_of Success answer
other least most = record { listed = most; zero_only = λ none. absurd (omega (arith, least, none)) }

-- a refusal
refusal : {A : Type 0} (number_of : A → ℕ) {Success : A → Type 0} (answer : A) → (10 ≤ number_of answer) × (number_of answer ≤ 21) → Numbered number_of Success answer
refusal number_of answer between = other (omega arith) between.1

-- a refusal of a text
text_number : {k : ℕ} → TextNumber k → (10 ≤ k) × (k ≤ 21)
text_number number = (number.least, ⊎_elim (λ low. omega (arith, low)) (λ last. omega (arith, last)) number.listed)

-- ---- of `check`

pub check_numbered : (policy evidence : List ℕ) → Numbered number_of IsSafe (answer_of policy evidence)
check_numbered policy evidence = go (answer_of policy evidence) refl
  where
    go : (answer : Answer) → answer_of policy evidence ≡ answer → Numbered number_of IsSafe answer
    go (Answer.Safe roles assigns revokes goals pinned) is = record { listed = lit≤ tt; zero_only = λ none. safe roles assigns revokes goals pinned }
    go (Answer.Attacked steps user name goal) is = other (lit≤ tt) (lit≤ tt)
    go (Answer.Unproved part number) is = other (lit≤ tt) (lit≤ tt)
    go (Answer.Broken step) is = other (lit≤ tt) (lit≤ tt)
    go (Answer.Short steps) is = other (lit≤ tt) (lit≤ tt)
    go (Answer.Refused why) is = refusal number_of (Answer.Refused why) (text_number (refused_number policy evidence is))

-- ---- of sum, spell and merge

-- the number of a policy or a typing that is not read
policy_refused : (text : List ℕ) {k n : ℕ} → read_policy text ≡ refused k n → (10 ≤ k) × (k ≤ 21)
policy_refused text {k} {n} is = text_number (policy_number ((policy_refusal_exact text k n).0 is))

typing_refused : (names : List Name) (text : List ℕ) {k n : ℕ} → read_typing names text ≡ refused k n → (10 ≤ k) × (k ≤ 21)
typing_refused names text {k} {n} is = text_number (evidence_number ((typing_refusal_exact names text k n).0 is))

-- what holds of a refusal of a text and of what follows once it is read
when_read_lem : {S A : Type 0} (Holds : A → Type 0) (refusing : ℕ → ℕ → A) (r : Reading S) (next : S → Outcome A) → ((number line : ℕ) → r ≡ refused number line → Holds (refusing number line)) → ((s : S) → Holds (answer_in (next s)))
    → Holds (answer_in (when_read refusing r next))
unfolding when_read answer_in
when_read_lem Holds refusing (read s) next bad good = good s
when_read_lem Holds refusing (refused number line) next bad good = bad number line refl

sum-written : (room : ℕ) (names : List Name) (t : Table) → Numbered sum.number_of IsSummed (answer_in (sum.sum_written room names t))
unfolding sum.sum_written answer_in
sum-written room names t = go (fits room (typing_text names t))
  where
    go : (b : Bool) → Numbered sum.number_of IsSummed (answer_in (cond b (writes (sum.sum_made (pinned_names t (length names)) (length (typing_text names t))) (typing_text names t)) (leaves (sum.sum_refused 0 18 0))))
    go true = record { listed = lit≤ tt; zero_only = λ none. summed _ _ }
    go false = other (lit≤ tt) (lit≤ tt)

pub sum_numbered : (policy first second : List ℕ) (room : ℕ) → Numbered sum.number_of IsSummed (answer_in (sum.sum_outcome policy first second room))
unfolding sum.sum_outcome
sum_numbered policy first second room =
    when_read_lem (Numbered sum.number_of IsSummed) (sum.sum_refused 1) (read_policy policy) _ (λ number line is. refusal sum.number_of (sum.sum_refused 1 number line) (policy_refused policy is)) (λ s.
    when_read_lem (Numbered sum.number_of IsSummed) (sum.sum_refused 2) (read_typing s.roles first) _ (λ number line is. refusal sum.number_of (sum.sum_refused 2 number line) (typing_refused s.roles first is)) (λ t.
    when_read_lem (Numbered sum.number_of IsSummed) (sum.sum_refused 3) (read_typing s.roles second) _ (λ number line is. refusal sum.number_of (sum.sum_refused 3 number line) (typing_refused s.roles second is)) (λ u.
    sum-written room s.roles (sum_of (table_of t) (table_of u)))))

spell_written_lem : (room : ℕ) (text : List ℕ) → Numbered spell.number_of IsSpelled (answer_in (spell.spell_written room text))
unfolding spell.spell_written answer_in
spell_written_lem room text = go (leb (length text) room)
  where
    go : (b : Bool) → Numbered spell.number_of IsSpelled (answer_in (cond b (writes (spell.spelled (length text)) text) (leaves (spell.unspelled 20 0))))
    go true = record { listed = lit≤ tt; zero_only = λ none. spelled _ }
    go false = other (lit≤ tt) (lit≤ tt)

pub spell_numbered : (policy : List ℕ) (room : ℕ) → Numbered spell.number_of IsSpelled (answer_in (spell.spell_outcome policy room))
unfolding spell.spell_outcome
spell_numbered policy room =
    when_read_lem (Numbered spell.number_of IsSpelled) spell.unspelled (read_policy policy) _ (λ number line is. refusal spell.number_of (spell.unspelled number line) (policy_refused policy is)) (λ s. spell_written_lem room (policy_text s))

abbrev Fine : MergeAnswer → Type 0
Fine = Numbered merge.number_of IsMerged

-- what holds of a refusal and of what follows holds of either
when_either : (b : Bool) (next : Outcome MergeAnswer) (number : ℕ) → (10 ≤ number) × (number ≤ 21) → Fine (answer_in next) → Fine (answer_in (cond b next (leaves (merge.merge_refused 0 number 0))))
unfolding answer_in
when_either true next number r fine = fine
when_either false next number r fine = refusal merge.number_of (merge.merge_refused 0 number 0) r

merge_accepted : (which : ℕ) (v : TypingVerdict) (next : Outcome MergeAnswer) → Fine (answer_in next) → Fine (answer_in (merge.when_accepted which v next))
unfolding merge.when_accepted answer_in
merge_accepted which (Ok _) next fine = fine
merge_accepted which (Err failure) next fine = other (lit≤ tt) (lit≤ tt)

merge_judged_lem : (room : ℕ) (s : Said) (t : Table) (s' : Said) (u : Table) → Fine (answer_in (merge.merge_judged room s t s' u))
unfolding merge.merge_judged merge.merge_counted merge.merge_written answer_in
merge_judged_lem room s t s' u =
    merge_accepted 1 (typing_verdict s t) _
    (merge_accepted 2 (typing_verdict s' u) _
    (merge_accepted 3 (rules_verdict s' t) _
    (merge_accepted 4 (rules_verdict s u) _
    (when_either (merge.counts_fit s s') _ 19 (lit≤ tt, lit≤ tt)
    (when_either (fits room (typing_text s.roles (sum_of t u))) _ 18 (lit≤ tt, lit≤ tt)
    (record { listed = lit≤ tt; zero_only = λ none. merged _ _ _ _ _ _ }))))))

pub merge_numbered : (policy₁ typing₁ policy₂ typing₂ : List ℕ) (room : ℕ) → Fine (answer_in (merge.merge_outcome policy₁ typing₁ policy₂ typing₂ room))
unfolding merge.merge_outcome merge.when_same
merge_numbered policy₁ typing₁ policy₂ typing₂ room =
    when_read_lem Fine (merge.merge_refused 1) (read_policy policy₁) _ (λ number line is. refusal merge.number_of (merge.merge_refused 1 number line) (policy_refused policy₁ is)) (λ s.
    when_read_lem Fine (merge.merge_refused 2) (read_typing s.roles typing₁) _ (λ number line is. refusal merge.number_of (merge.merge_refused 2 number line) (typing_refused s.roles typing₁ is)) (λ t.
    when_read_lem Fine (merge.merge_refused 3) (read_policy policy₂) _ (λ number line is. refusal merge.number_of (merge.merge_refused 3 number line) (policy_refused policy₂ is)) (λ s'.
    when_read_lem Fine (merge.merge_refused 4) (read_typing s'.roles typing₂) _ (λ number line is. refusal merge.number_of (merge.merge_refused 4 number line) (typing_refused s'.roles typing₂ is)) (λ u.
    when_either (same_directory s s') _ 17 (lit≤ tt, lit≤ tt) (merge_judged_lem room s (table_of t) s' (table_of u))))))
