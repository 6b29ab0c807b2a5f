-- Going through the rows of a part for the first that passes a test.
use Rattle.std.specs.Prelude.{ℕ, ◌+◌, ◌≤◌, ◌<◌, Bool, true, false, List, Some, None, ◌≡◌, position, get_or}
use Rattle.std.proofs.Common.{zero-le, below_more, ap, ◌∙◌, arith}
use Rattle.ledgers.specs.Parts.{Part, row_at, rows_in}
use Rattle.ledgers.specs.PartLaws.{rows_length, rows_at}
use Rattle.steps.specs.First.{place_some, place_none}

-- Of so many rows none before the place passes.
pub record Passed {A : Type 0} (part : Part A) (test : A → Bool) (words : List ℕ) (count place : ℕ) : Type 0 where
  pub reached : place ≤ count
  pub failed : (k : ℕ) → k < place → test (row_at part words k) ≡ false

module _ {A : Type 0} {part : Part A} {test : A → Bool} {words : List ℕ} {count : ℕ} where
  -- before the first
  pub passed_none : Passed part test words count 0
  passed_none = record { reached = zero-le; failed = λ k below. absurd (omega arith) }

  module _ {place : ℕ} (passed : Passed part test words count place) where
    -- the row at a place stands there in the list
    in_list : (k : ℕ) → k < count → {b : Bool} → test (row_at part words k) ≡ b → test (get_or (rows_in part words count) k (row_at part words 0)) ≡ b
    in_list k inside is = ap test (rows_at part words count k (row_at part words 0) inside) ∙ is

    -- the next does not pass
    pub passed_more : place < count → test (row_at part words place) ≡ false → Passed part test words count (place + 1)
    passed_more here fails = record { reached = omega arith; failed = below_more _ place passed.failed fails }

    -- it does
    pub first_here : place < count → test (row_at part words place) ≡ true → position test (rows_in part words count) ≡ Some place
    first_here here passes =
        (place_some test (row_at part words 0) (rows_in part words count) place).1 (record {
          inside = omega (arith, rows_length part words count);
          passes = in_list place here passes;
          earlier = λ k below. in_list k (omega arith) (passed.failed k below);
        })

    -- no row is left
    pub first_nowhere : count ≤ place → position test (rows_in part words count) ≡ None
    first_nowhere all =
        (place_none test (row_at part words 0) (rows_in part words count)).1 (record { fails = λ k inside. let here : k < count = omega (arith, rows_length part words count) in in_list k here (passed.failed k (omega arith)) })
