-- `traced` goes by the verdict on the trace.
use Rattle.std.proofs.Common.{sym, ap}
use Rattle.answering.specs.Answers.{traced_answer}
use Rattle.answering.proofs.traced.Goals as goal

pub returns-in-Attacked : goal.returns-in-Attacked
unfolding traced_answer
returns-in-Attacked c = sym (ap traced_answer c.in-Attacked.is)

pub returns-in-Broken : goal.returns-in-Broken
unfolding traced_answer
returns-in-Broken c = sym (ap traced_answer c.in-Broken.is)

pub returns-in-Short : goal.returns-in-Short
unfolding traced_answer
returns-in-Short c = sym (ap traced_answer c.in-Short.is)
