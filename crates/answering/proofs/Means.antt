-- What ATTACKED means of the policy: a run of the model to a bad state.
use Rattle.std.specs.Prelude.{ℕ, List, ◌≡◌}
use Rattle.tables.specs.declared.Name.{Name}
use Rattle.running.proofs.TraceVerdictExact.{attacked_attack}
use Rattle.answering.specs.declared.Answer.{Answer}
use Rattle.answering.specs.Answers.{answer_of}
use Rattle.answering.proofs.AnswerExact.{attacked_exact}
use Rattle.answering.specs.CheckRules.{BadRun}

-- ATTACKED is answered only where there is such a run.
pub attacked_means : (policy evidence : List ℕ) {n u : ℕ} {m : Name} {g : ℕ} → answer_of policy evidence ≡ Answer.Attacked n u m g → BadRun policy
attacked_means policy evidence {n} {u} {m} {g} is =
    let texts = (attacked_exact policy evidence n u m g).0 is in
    let attack = attacked_attack texts.holds in
    record { said = texts.said; reads = texts.reads; last = attack.last; run = attack.run; bad = attack.bad }
