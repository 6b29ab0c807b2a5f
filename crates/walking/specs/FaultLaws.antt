-- A fault is known from the number that tells it.
use Rattle.std.specs.Prelude.{◌≡◌, refl}
use Rattle.walking.specs.declared.Fault.{Fault}
use Rattle.walking.specs.Faults.{policy_number, evidence_number, policy_fault, evidence_fault}

pub policy_told : (fault : Fault) → policy_fault (policy_number fault) ≡ fault
policy_told Fault.Malformed = refl
policy_told Fault.AboveLimit = refl
policy_told Fault.Undeclared = refl

pub evidence_told : (fault : Fault) → evidence_fault (evidence_number fault) ≡ fault
evidence_told Fault.Malformed = refl
evidence_told Fault.AboveLimit = refl
evidence_told Fault.Undeclared = refl
