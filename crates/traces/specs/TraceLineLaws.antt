-- A step line from what a reader finds.
use Rattle.std.specs.Prelude.{ℕ, Bool, true, false, Result, Ok, Err, List, ◌≡◌, refl}
use Rattle.std.proofs.Common.{true≢false, sym, ap, subst}
use Rattle.tables.specs.declared.Name.{Name}
use Rattle.text.specs.Pieces.{split}
use Rattle.walking.specs.declared.Fault.{Fault}
use Rattle.walking.specs.Faults.{evidence_fault}
use Rattle.walking.specs.Turns.{in_turn}
use Rattle.walking.specs.TurnLaws.{turn_cases}
use Rattle.walking.specs.Evidence.{tests_within}
use Rattle.traces.specs.declared.TraceLine.{TraceLine}
use Rattle.traces.specs.TraceLines.{line_of, step_formed, step_known, step_within, step_said, name_brought, comes_to, judged, trace_line}

-- ---- what a line comes to

-- It is the answer of its tests in turn, each with its number.
comes_in_turn : {A : Type 0} (formed known within : Bool) (says : A) → comes_to formed known within says ≡ in_turn (λ number. Err (evidence_fault number)) (tests_within formed known within) (Ok says)
unfolding comes_to in_turn
comes_in_turn true true true says = refl
comes_in_turn true true false says = refl
comes_in_turn true false within says = refl
comes_in_turn false known within says = refl

pub trace_in_turn : (assigns revokes : ℕ) (names : List Name) (line : List ℕ)
    → let l = line_of (split 9 line) in trace_line assigns revokes names line
    ≡ in_turn (λ number. Err (evidence_fault number)) (tests_within (step_formed l) (step_known assigns revokes names l) (step_within names l)) (Ok (record { step = step_said names l; name = name_brought l }))
unfolding trace_line judged
trace_in_turn assigns revokes names line = comes_in_turn _ _ _ _

-- What holds of a fault, and of what a line says that passes all tests, holds of what the line comes to.
pub comes_cases : {A : Type 0} (P : Result A Fault → Type 0) (formed known within : Bool) (says : A) → ((fault : Fault) → P (Err fault)) → (formed ≡ true → known ≡ true → within ≡ true → P (Ok says)) → P (comes_to formed known within says)
comes_cases P formed known within says faulty good =
    subst P (sym (comes_in_turn formed known within says)) (turn_cases P (λ number. Err (evidence_fault number)) (tests_within formed known within) (Ok says) (λ number f. faulty (evidence_fault number)) (λ p. good p.0 p.1.0 p.1.1.0))

-- A good line passes all tests, and is what it says.
pub comes_good : {A : Type 0} (formed known within : Bool) (says : A) {told : A} → comes_to formed known within says ≡ Ok told → (formed ≡ true) × (known ≡ true) × (within ≡ true) × (says ≡ told)
comes_good formed known within says {told} =
    comes_cases (λ (r : _). r ≡ Ok told → (formed ≡ true) × (known ≡ true) × (within ≡ true) × (says ≡ told)) formed known within says
    (λ fault is. absurd (true≢false (cc))) (λ a b d is. (a, b, d, cc))

-- ---- the fields of a line

pub by_fields : (assigns revokes : ℕ) (users : List Name) (line : List ℕ) {fields : List (List ℕ)} → split 9 line ≡ fields → judged assigns revokes users (line_of fields) ≡ trace_line assigns revokes users line
unfolding trace_line
by_fields assigns revokes users line cut = sym (ap (λ (l : List (List ℕ)). judged assigns revokes users (line_of l)) cut)
