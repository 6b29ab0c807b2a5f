-- `end_line` is judged by its word and its place.
use Rattle.std.proofs.Common.{sym, ◌∙◌, rules}
use Rattle.typings.specs.TypingLineLaws.{end_judged, test_fails, test_passes}
use Rattle.walking.specs.declared.Fault.{Fault}
use Rattle.typings.proofs.end_line.Goals as goal

pub returns-in_err-pass : goal.returns-in_err-pass
returns-in_err-pass c = λ names many. end_judged _ names _ many c.same.ensures (search rules ∙ test_fails Fault.Malformed _ _ (sym c.in_err-pass.was ∙ c.pass.ensures))

pub returns : goal.returns
returns c = λ names many. end_judged _ names _ many c.same.ensures (test_passes Fault.Malformed _ _ (sym c.in_ok-pass.was ∙ c.pass.ensures))
