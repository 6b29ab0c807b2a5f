-- What is wrong with a line, and the numbers of the refusals for it (document 01, "Verdicts and refusal numbers"; document 02, CR 2).
use Rattle.std.specs.Prelude.{ℕ, Bool, cond, eqb, Result, Ok, Err}
use Rattle.walking.specs.declared.Fault.{Fault}
use Rattle.walking.specs.declared.Refusal.{Refusal}

-- 11 for a policy that is malformed, 12 for one above a count limit, 13 for one that names what is not declared
abbrev pub policy_number : Fault → ℕ
policy_number Fault.Malformed = 11
policy_number Fault.AboveLimit = 12
policy_number Fault.Undeclared = 13

-- 15 for evidence that is malformed, 21 for a name above the limit, 16 for one that names what it must not
abbrev pub evidence_number : Fault → ℕ
evidence_number Fault.Malformed = 15
evidence_number Fault.AboveLimit = 21
evidence_number Fault.Undeclared = 16

-- the fault that a number tells of a policy, and of evidence
abbrev pub policy_fault : (number : ℕ) → Fault
policy_fault number = cond (eqb number 11) Fault.Malformed (cond (eqb number 12) Fault.AboveLimit Fault.Undeclared)

abbrev pub evidence_fault : (number : ℕ) → Fault
evidence_fault number = cond (eqb number 15) Fault.Malformed (cond (eqb number 21) Fault.AboveLimit Fault.Undeclared)

abbrev pub policy_refusal : Fault → (line : ℕ) → Refusal
policy_refusal fault line = record { number = policy_number fault; line = line }

abbrev pub evidence_refusal : Fault → (line : ℕ) → Refusal
evidence_refusal fault line = record { number = evidence_number fault; line = line }

-- a test of a line: nothing where it passes, and else its fault
abbrev pub passing : Bool → Fault → Result (Unit {0}) Fault
passing passes fault = cond passes (Ok tt) (Err fault)
