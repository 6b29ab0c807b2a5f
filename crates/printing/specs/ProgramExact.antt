-- When the program `check` prints NOFILE, and that it prints the line of the two texts where both files are read.
use Rattle.std.specs.Prelude.{ℕ, Bool, true, false, List, ◌↔◌, ◌≡◌, refl, get_or}
use Rattle.std.proofs.Common.{true≢false, sym, ap, arith}
use Rattle.std.proofs.lemmas.Bool.{false≢true}
use Rattle.text.specs.Forms.{bytes}
use Rattle.answering.specs.declared.Answer.{Answer}
use Rattle.showing.specs.Fields.{field}
use Rattle.printing.specs.Line.{line_of, check_line}
use Rattle.printing.specs.Program.{no_file, program_line}

-- no answer's line begins as NOFILE does
answered : (answer : Answer) → get_or (line_of answer) 0 0 ≡ 78 → ⊥
unfolding line_of
answered (Answer.Safe roles assigns revokes goals pinned) same = omega (arith, same)
answered (Answer.Attacked steps user name goal) same = omega (arith, same)
answered (Answer.Unproved part number) same = omega (arith, same)
answered (Answer.Broken step) same = omega (arith, same)
answered (Answer.Short steps) same = omega (arith, same)
answered (Answer.Refused refusal) same = omega (arith, same)

checked : (policy evidence name : List ℕ) → check_line policy evidence ≡ no_file name → ⊥
unfolding check_line no_file
checked policy evidence name same = answered _ (ap (λ (l : List ℕ). get_or l 0 0) same)

-- the two lines of NOFILE differ
told-apart : no_file (bytes "policy") ≡ no_file (bytes "evidence") → ⊥
unfolding no_file field
told-apart same = omega (arith, ap (λ (l : List ℕ). get_or l 7 0) same)

-- NOFILE policy is printed exactly where the policy can't be read.
pub no_policy : (policyRead : Bool) (policy : List ℕ) (evidenceRead : Bool) (evidence : List ℕ) → program_line policyRead policy evidenceRead evidence ≡ no_file (bytes "policy") ↔ policyRead ≡ false
unfolding program_line
no_policy false policy evidenceRead evidence = (λ same. refl, λ is. refl)
no_policy true policy false evidence = (λ same. absurd (told-apart (sym same)), λ is. absurd (true≢false is))
no_policy true policy true evidence = (λ same. absurd (checked policy evidence _ same), λ is. absurd (true≢false is))

-- NOFILE evidence is printed exactly where the policy can be read and the evidence can't.
pub no_evidence : (policyRead : Bool) (policy : List ℕ) (evidenceRead : Bool) (evidence : List ℕ)
    → program_line policyRead policy evidenceRead evidence ≡ no_file (bytes "evidence") ↔ (policyRead ≡ true) × (evidenceRead ≡ false)
unfolding program_line
no_evidence false policy evidenceRead evidence = (λ same. absurd (told-apart same), λ is. absurd (false≢true is.0))
no_evidence true policy false evidence = (λ same. (refl, refl), λ is. refl)
no_evidence true policy true evidence = (λ same. absurd (checked policy evidence _ same), λ is. absurd (true≢false is.1))

-- Where both can be read it is the line of the two texts.
pub both_read : (policyRead : Bool) (policy : List ℕ) (evidenceRead : Bool) (evidence : List ℕ) → policyRead ≡ true → evidenceRead ≡ true
    → program_line policyRead policy evidenceRead evidence ≡ check_line policy evidence
unfolding program_line
both_read false policy evidenceRead evidence first second = absurd (false≢true first)
both_read true policy false evidence first second = absurd (false≢true second)
both_read true policy true evidence first second = refl
