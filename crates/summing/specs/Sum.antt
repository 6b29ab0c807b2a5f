-- The sum asked for alone: a policy, two typings read over it, and the text of their sum.
use Rattle.std.specs.Prelude.{ℕ, cond, List, [], ◌∷◌, length, Result, Ok, Err}
use Rattle.model.specs.declared.Typing.{Typing as Table}
use Rattle.tables.specs.declared.Name.{Name}
use Rattle.reading.specs.Policy.{Said, read_policy}
use Rattle.typings.specs.TypingText.{Typed, read_typing, table_of}
use Rattle.judging.specs.Verdict.{pinned_names}
use Rattle.spelling.specs.TypingText.{typing_text}
use Rattle.summing.specs.declared.Summed.{Summed}
use Rattle.summing.specs.declared.SumRefused.{SumRefused}
use Rattle.summing.specs.Sums.{sum_of}
use Rattle.summing.specs.Outcome.{Outcome, leaves, writes, when_read, fits}

-- An answer: the pinned names and the length of the text; or the refusal, and which text it speaks of.
abbrev pub SumAnswer : Type 0
SumAnswer = Result Summed SumRefused

abbrev pub sum_made : (pinned written : ℕ) → SumAnswer
sum_made pinned written = Ok (record { pinned = pinned; length = written })

abbrev pub sum_refused : (which number line : ℕ) → SumAnswer
sum_refused which number line = Err (record { text = which; refusal = record { number = number; line = line } })

-- The sum written into a buffer with so much room, or 18.
unfoldable pub sum_written : ℕ → List Name → Table → Outcome SumAnswer
sum_written room names t =
    let text = typing_text names t in
    cond (fits room text) (writes (sum_made (pinned_names t (length names)) (length text)) text) (leaves (sum_refused 0 18 0))

-- The policy, then the first typing, then the second; a refusal says which.
unfoldable pub sum_outcome : (policy first second : List ℕ) → ℕ → Outcome SumAnswer
sum_outcome policy first second room =
    when_read (sum_refused 1) (read_policy policy) (λ (s : Said).
    when_read (sum_refused 2) (read_typing s.roles first) (λ (t : Typed).
    when_read (sum_refused 3) (read_typing s.roles second) (λ (u : Typed).
    sum_written room s.roles (sum_of (table_of t) (table_of u)))))

-- Document 01's number of an answer, and its values: which text it speaks of, and the line; or pinned and the length.
abbrev pub number_of : SumAnswer → ℕ
number_of (Ok done) = 0
number_of (Err failed) = failed.refusal.number

abbrev pub values_of : SumAnswer → List ℕ
values_of (Ok done) = done.pinned ∷ done.length ∷ []
values_of (Err failed) = failed.text ∷ failed.refusal.line ∷ []
