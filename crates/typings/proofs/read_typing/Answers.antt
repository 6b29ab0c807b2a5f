-- `read_typing` goes from line to line: the arrays hold what the rows so far say, and the rest of the text decides.
use Rattle.std.proofs.Common.{replicate, false, ◌≡◌, ap, ◌∙◌, arith, rules, Ok, Err}
use Rattle.typings.specs.TypingReached.{reached_start, reached_end, reached_tail, refused_long, row_fits, line_refused, line_header, line_row, line_last, line_more}
use Rattle.roles.specs.declared.RoleSet.{RoleSet}
use Rattle.roles.specs.Sets.{empty_set}
use Rattle.model.specs.declared.Typing.{Typing}
use Rattle.tables.specs.Padded.{padded}
use Rattle.typings.specs.TypingText.{untyped, table_of}
use Rattle.tables.specs.NameLaws.{rows_length}
use Rattle.text.specs.PieceLaws.{part_short}
use Rattle.typings.proofs.read_typing.Goals as goal

-- every array is filled with what a typing of no rows is laid out with
filled : RoleSet → Typing
filled none = record { labels = replicate 128 false; plus = replicate 128 none; minus = replicate 128 none }

blank : {none : RoleSet} → none ≡ empty_set → filled none ≡ table_of untyped
unfolding filled table_of padded untyped
blank is = ap filled is

pub returns-then-end-gt32768 : goal.returns-then-end-gt32768
returns-then-end-gt32768 c = refused_long _ _ c.if-end-gt32768.true

pub loop-at-init : goal.loop-at-init
unfolding filled
loop-at-init c = reached_start _ _ c.if-end-gt32768.false (blank c.empty-empty.ensures)

pub returns-then-stop-end : goal.returns-then-stop-end
returns-then-stop-end c = ap Err c.in_evidence.ensures ∙ reached_tail c.loop-at.invariant c.seek-stop.ensures c.if-stop-end.true

pub read_line-answer-requires : goal.read_line-answer-requires
read_line-answer-requires c = (part_short c.args.text.now c.loop-at.at c.seek-stop.result c.loop-at.invariant.on.short, c.requires)

pub returns-in_default : goal.returns-in_default
returns-in_default c = ap Err c.in_evidence-in_default.ensures ∙ line_refused c.loop-at.invariant c.seek-stop.ensures (search rules) c.read_line-answer.ensures c.unwrap_err.ensures

pub loop-at-preserved-in-Header : goal.loop-at-preserved-in-Header
loop-at-preserved-in-Header c = line_header c.loop-at.invariant c.seek-stop.ensures (search rules) c.read_line-answer.ensures (c.in-Ok.is ∙ ap Ok c.in-Header.is)

pub overflow_sub-role : goal.overflow_sub-role
overflow_sub-role c = omega (arith, row_fits c.loop-at.invariant c.seek-stop.ensures (search rules) c.read_line-answer.ensures (c.in-Ok.is ∙ ap Ok c.in-Row.is))

pub bounds-typing-role : goal.bounds-typing-role
bounds-typing-role c = omega (arith, row_fits c.loop-at.invariant c.seek-stop.ensures (search rules) c.read_line-answer.ensures (c.in-Ok.is ∙ ap Ok c.in-Row.is), rows_length c.args.roles.count c.args.roles.words.now)

pub offset_bounds-typing-role : goal.offset_bounds-typing-role
offset_bounds-typing-role c = omega (arith, row_fits c.loop-at.invariant c.seek-stop.ensures (search rules) c.read_line-answer.ensures (c.in-Ok.is ∙ ap Ok c.in-Row.is), rows_length c.args.roles.count c.args.roles.words.now)

pub bounds-typing-role-in-Row : goal.bounds-typing-role-in-Row
bounds-typing-role-in-Row c = omega (arith, row_fits c.loop-at.invariant c.seek-stop.ensures (search rules) c.read_line-answer.ensures (c.in-Ok.is ∙ ap Ok c.in-Row.is), rows_length c.args.roles.count c.args.roles.words.now)

pub offset_bounds-typing-role-in-Row : goal.offset_bounds-typing-role-in-Row
offset_bounds-typing-role-in-Row c = omega (arith, row_fits c.loop-at.invariant c.seek-stop.ensures (search rules) c.read_line-answer.ensures (c.in-Ok.is ∙ ap Ok c.in-Row.is), rows_length c.args.roles.count c.args.roles.words.now)

pub bounds-typing-role-in-Row-2 : goal.bounds-typing-role-in-Row-2
bounds-typing-role-in-Row-2 c = omega (arith, row_fits c.loop-at.invariant c.seek-stop.ensures (search rules) c.read_line-answer.ensures (c.in-Ok.is ∙ ap Ok c.in-Row.is), rows_length c.args.roles.count c.args.roles.words.now)

pub overflow_add-stage : goal.overflow_add-stage
overflow_add-stage c = omega (arith, row_fits c.loop-at.invariant c.seek-stop.ensures (search rules) c.read_line-answer.ensures (c.in-Ok.is ∙ ap Ok c.in-Row.is), rows_length c.args.roles.count c.args.roles.words.now)

pub loop-at-preserved : goal.loop-at-preserved
loop-at-preserved c = line_row c.loop-at.invariant c.seek-stop.ensures (search rules) c.read_line-answer.ensures (c.in-Ok.is ∙ ap Ok c.in-Row.is) (omega (arith, rows_length c.args.roles.count c.args.roles.words.now))

pub returns-then-at-end : goal.returns-then-at-end
returns-then-at-end c = ap Err c.in_evidence-then-at-end.ensures ∙ line_more c.loop-at.invariant c.seek-stop.ensures (search rules) c.read_line-answer.ensures (c.in-Ok.is ∙ ap Ok c.in-End.is) c.if-at-end.true

pub returns-in-End : goal.returns-in-End
returns-in-End c = line_last c.loop-at.invariant c.seek-stop.ensures (search rules) c.read_line-answer.ensures (c.in-Ok.is ∙ ap Ok c.in-End.is) c.if-at-end.false

pub returns : goal.returns
returns c = ap Err c.in_evidence-2.ensures ∙ reached_end c.loop-at.invariant c.loop-at-test.false
