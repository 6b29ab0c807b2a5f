-- `same` answers the test of two byte strings, whichever way they compare.
use Rattle.std.proofs.Common.{sym, ◌∙◌}
use lib.Pointwise.{bytes_decides}
use Rattle.text.specs.PieceLaws.{same_answer}
use Rattle.text.proofs.same.Goals as goal

pub returns : goal.returns
returns c =
    let both = bytes_decides c.args.a.now c.args.b.now in
    same_answer _ _ _ (λ e. both.0 (sym c.eq.ensures ∙ e)) (λ e. c.eq.ensures ∙ both.1 e)
