-- The verdict on a part by the tests of its rows, in turn: that of the first row that fails.
use Rattle.std.specs.Prelude.{ℕ, ◌+◌, ◌<◌, Bool, true, false, not, List, ◌≡◌, length, get_or}
use Rattle.std.proofs.Common.{ap, ◌∙◌, sym, add-one, arith}
use Rattle.ledgers.specs.Parts as ledgers
use Rattle.ledgers.specs.Parts.{row_at, rows_in}
use Rattle.ledgers.specs.PartLaws.{rows_at, rows_length}
use Rattle.steps.specs.First.{Earliest, Nowhere, first_some, first_none}
use Rattle.judging.specs.declared.Part.{Part}
use Rattle.judging.specs.Verdict.{TypingVerdict, accepted, unproved, failing_part, first_failing}

-- The verdict on a part of so many rows, by what their tests may answer: each passes; or one fails, and each before it passes.
pub data ByTests (Answers : ℕ → Bool → Type 0) (part : Part) (count : ℕ) : TypingVerdict → Type 0 where
  none_fails : ((place : ℕ) → place < count → Answers place true) → ByTests Answers part count accepted
  one_fails : {place : ℕ} → place < count → ((before : ℕ) → before < place → Answers before true) → Answers place false → ByTests Answers part count (unproved part (place + 1))

module _ {Row : Type 0} (rows : ledgers.Part Row) (passes : Row → Bool) (words : List ℕ) where
  -- the answer of the row at a place
  tested : {count place : ℕ} {answer : Bool} → place < count → answer ≡ passes (row_at rows words place) → not (passes (get_or (rows_in rows words count) place (row_at rows words 0))) ≡ not answer
  tested {count} {place} here is = ap (λ (row : Row). not (passes row)) (rows_at rows words count place (row_at rows words 0) here) ∙ ap not (sym is)

  -- Where the answers are those of a test of the rows, the verdict is that of the first row that fails it.
  pub verdict_by : {Answers : ℕ → Bool → Type 0} {part : Part} {count : ℕ} {verdict : TypingVerdict}
      → ByTests Answers part count verdict
      → ((place : ℕ) (answer : Bool) → place < count → Answers place answer → answer ≡ passes (row_at rows words place))
      → verdict ≡ failing_part part (first_failing passes (rows_in rows words count))
  unfolding failing_part first_failing
  verdict_by {part = part} {count = count} (none_fails each) exact =
      let none : Nowhere (λ (row : Row). not (passes row)) (row_at rows words 0) (rows_in rows words count) = record {
        fails = λ place inside. let here : place < count = omega (arith, inside, rows_length rows words count) in tested here (exact place true here (each place here));
      } in
      sym (ap (failing_part part) ((first_none _ _ _).1 none))
  verdict_by {part = part} {count = count} (one_fails {place = place} here before bad) exact =
      let one : Earliest (λ (row : Row). not (passes row)) (row_at rows words 0) (rows_in rows words count) place = record {
        inside = omega (arith, here, rows_length rows words count);
        passes = tested here (exact place false here bad);
        earlier = λ k earlier. let so_far : k < count = omega arith in tested so_far (exact k true so_far (before k earlier));
      } in
      rw (add-one place) (sym (ap (failing_part part) ((first_some _ _ _ _).1 one)))
