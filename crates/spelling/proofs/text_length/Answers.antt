-- `text_length` goes through the roles; the invariant: what is counted is the header and the lines passed.
use Rattle.std.proofs.Common.{◌+◌, length, ◌≡◌, ap, arith}
use Rattle.roles.specs.Sets.{empty_set}
use Rattle.model.specs.Meaning.{meaning}
use Rattle.spelling.specs.Growth.{counted}
use Rattle.spelling.proofs.TypingSteps.{lines_below, line_at, lines_start, lines_grow}
use Rattle.spelling.proofs.TypingLengths.{lines_most, text_length}
use Rattle.spelling.proofs.text_length.Goals as goal

pub loop-role-init : goal.loop-role-init
loop-role-init c = ap length (lines_start _ _ _)

pub overflow_add-total : goal.overflow_add-total
unfolding line_at meaning empty_set
overflow_add-total c =
    let next : c.loop-role.total + c.row_length-total.result ≡ length (lines_below c.args.roles.count c.args.roles.words.now (meaning c.args.t) (c.loop-role.role + 1)) = counted (lines_grow _ _ (meaning c.args.t)) c.loop-role.role c.loop-role.invariant (c.row_length-total.ensures ((meaning c.args.t).label c.loop-role.role)) in
    omega (arith, next, lines_most c.args.roles.count c.args.roles.words.now (meaning c.args.t) (c.loop-role.role + 1) c.requires)

pub loop-role-preserved : goal.loop-role-preserved
unfolding line_at meaning empty_set
loop-role-preserved c =
    let next : c.loop-role.total + c.row_length-total.result ≡ length (lines_below c.args.roles.count c.args.roles.words.now (meaning c.args.t) (c.loop-role.role + 1)) = counted (lines_grow _ _ (meaning c.args.t)) c.loop-role.role c.loop-role.invariant (c.row_length-total.ensures ((meaning c.args.t).label c.loop-role.role)) in
    next

pub overflow_add-result : goal.overflow_add-result
overflow_add-result c = omega (arith, lines_most c.args.roles.count c.args.roles.words.now (meaning c.args.t) c.loop-role.role c.requires)

pub returns : goal.returns
returns c = omega (arith, text_length c.args.roles.count c.args.roles.words.now c.args.t c.loop-role.role (omega arith) (omega arith))
