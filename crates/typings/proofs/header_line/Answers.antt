-- `header_line` is judged by its word, its place and the edition.
use Rattle.std.proofs.Common.{sym, ◌∙◌, rules}
use Rattle.typings.specs.TypingLineLaws.{header_judged, test_fails, test_passes}
use Rattle.walking.specs.declared.Fault.{Fault}
use Rattle.typings.proofs.header_line.Goals as goal

pub returns-in_err-pass : goal.returns-in_err-pass
returns-in_err-pass c = λ names. header_judged _ names _ _ c.same.ensures c.same-2.ensures (search rules ∙ test_fails Fault.Malformed _ _ (sym c.in_err-pass.was ∙ c.pass.ensures))

pub returns : goal.returns
returns c = λ names. header_judged _ names _ _ c.same.ensures c.same-2.ensures (test_passes Fault.Malformed _ _ (sym c.in_ok-pass.was ∙ c.pass.ensures))
