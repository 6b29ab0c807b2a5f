-- `set_length` goes through the members; the invariant: what is counted is the text of the roles passed.
use Rattle.std.proofs.Common.{◌+◌, ◌≤◌, length, sym, ap, ◌∙◌, arith}
use Rattle.roles.specs.Sets.{lowest_role}
use Rattle.spelling.proofs.TypingSteps.{set_start, set_some, set_none}
use Rattle.spelling.proofs.TypingLengths.{below_most}
use Rattle.spelling.proofs.Members.{passed_start, counted_next, passed_next, passed_end}
use Rattle.spelling.proofs.set_length.Goals as goal
use Rattle.spelling.proofs.set_length.Goals.{in-None, in-Some+then-roles-role}

pub loop-role-init : goal.loop-role-init
loop-role-init c = rw (c.into_iter-role-iterator.ensures.into_iter_gives, c.roles-role-items.ensures) (0, passed_start _ _ _, sym (ap length (set_start _ _)))

pub overflow_add-at : goal.overflow_add-at
overflow_add-at c =
    let next = counted_next _ _ _ c.loop-role.invariant.1 (c.in-Some.ensures).steps c.if-roles-role.false c.row.ensures c.loop-role.invariant.2 c.member_length-at.ensures in
    omega (arith, next, below_most c.args.roles.words.now c.args.set (c.in-Some.role + 1))

pub loop-role-preserved : goal.loop-role-preserved
loop-role-preserved c =
    let next = counted_next _ _ _ c.loop-role.invariant.1 (c.in-Some.ensures).steps c.if-roles-role.false c.row.ensures c.loop-role.invariant.2 c.member_length-at.ensures in
    (c.in-Some.role + 1, passed_next _ _ _ c.loop-role.invariant.1 (c.in-Some.ensures).steps c.if-roles-role.false, next)

pub returns-then-some : goal.returns-then-some
returns-then-some c =
    let last : c.args.roles.count ≤ lowest_role c.loop-role.role-iterator.left = elim c.match-next.branch [
      | in-None w ↦ omega (arith, c.requires, (w.in-None.ensures).steps.none)
      | in-Some+then-roles-role w ↦ omega (arith, (w.in-Some.ensures).steps.lowest, w.if-roles-role.true)
    ] in
    let end = passed_end _ _ _ c.loop-role.invariant.1 last in
    c.loop-role.invariant.2 ∙ ap length (end.1 ∙ set_some _ _ _ _ (omega arith) (omega arith) end.0 c.if-some.true)

pub returns : goal.returns
returns c =
    let last : c.args.roles.count ≤ lowest_role c.loop-role.role-iterator.left = elim c.match-next.branch [
      | in-None w ↦ omega (arith, c.requires, (w.in-None.ensures).steps.none)
      | in-Some+then-roles-role w ↦ omega (arith, (w.in-Some.ensures).steps.lowest, w.if-roles-role.true)
    ] in
    let end = passed_end _ _ _ c.loop-role.invariant.1 last in
    ap length (set_none _ _ _ _ (omega arith) (omega arith) end.0 c.if-some.false).1
