-- `member_length` goes by the two cases of a member's text: the first name, a later name.
use Rattle.std.proofs.Common.{◌+◌, length, ◌++◌, ◌≡◌, refl, sym, ap, ◌∙◌, arith}
use Rattle.text.specs.Forms.{bytes}
use Rattle.writing.specs.Written.{spelled}
use Rattle.writing.specs.Spelling.{spelled_length}
use Rattle.spelling.proofs.TypingSteps.{member_first, member_later}
use Rattle.spelling.proofs.member_length.Goals as goal

pub returns-then-not-some : goal.returns-then-not-some
returns-then-not-some c = c.name_length.ensures ∙ sym (ap length (member_first _ refl c.if-not-some.true))

pub overflow_add-result : goal.overflow_add-result
overflow_add-result c = omega (arith, spelled_length c.args.name)

pub returns : goal.returns
returns c = let counted : 1 + c.name_length-2.result ≡ length (bytes "," ++ spelled c.args.name) = omega (arith, c.name_length-2.ensures) in
    counted ∙ sym (ap length (member_later c.args.name refl c.if-not-some.false))
