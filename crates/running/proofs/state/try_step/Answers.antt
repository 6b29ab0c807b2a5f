-- `try_step` goes by the kind of the step, and by what its callees promise.
use Rattle.std.proofs.Common.{subst, arith}
use Rattle.running.specs.Range.{Ranged, in_limits}
use Rattle.running.specs.Trying.{assign_tried, revoke_tried, leave_tried, join_tried}
use Rattle.running.proofs.state.try_step.Goals as goal

pub assigned-changed-requires : goal.assigned-changed-requires
assigned-changed-requires c = let limits = c.requires.1 in
    (c.requires.0, in_limits limits.assigns limits.users (subst (Ranged c.args.c.assigns c.args.c.revokes c.args.c.users) c.in-Assign.is c.requires.2))

pub store_changed-requires : goal.store_changed-requires
store_changed-requires c = let range = subst (Ranged c.args.c.assigns c.args.c.revokes c.args.c.users) c.in-Assign.is c.requires.2 in
    (c.requires.0, omega (arith, range.used, c.requires.1.users))

pub revoked-changed-requires : goal.revoked-changed-requires
revoked-changed-requires c = let limits = c.requires.1 in
    (c.requires.0, in_limits limits.revokes limits.users (subst (Ranged c.args.c.assigns c.args.c.revokes c.args.c.users) c.in-Revoke.is c.requires.2))

pub store_changed-requires-in-Revoke : goal.store_changed-requires-in-Revoke
store_changed-requires-in-Revoke c = let range = subst (Ranged c.args.c.assigns c.args.c.revokes c.args.c.users) c.in-Revoke.is c.requires.2 in
    (c.requires.0, omega (arith, range.used, c.requires.1.users))

pub left-changed-requires : goal.left-changed-requires
left-changed-requires c = let here = subst (Ranged c.args.c.assigns c.args.c.revokes c.args.c.users) c.in-Leave.is c.requires.2 in
    (c.requires.0, omega (arith, here, c.requires.1.users))

pub store_changed-requires-in-Leave : goal.store_changed-requires-in-Leave
store_changed-requires-in-Leave c = let here = subst (Ranged c.args.c.assigns c.args.c.revokes c.args.c.users) c.in-Leave.is c.requires.2 in
    (c.requires.0, omega (arith, here, c.requires.1.users))

pub returns-in-Assign : goal.returns-in-Assign
returns-in-Assign c = let kind = c.in-Assign.is in
    rw kind (assign_tried _ c.requires.0 _ c.requires.1 (subst (Ranged c.args.c.assigns c.args.c.revokes c.args.c.users) kind c.requires.2) c.assigned-changed.ensures c.store_changed.ensures)

pub returns-in-Revoke : goal.returns-in-Revoke
returns-in-Revoke c = let kind = c.in-Revoke.is in
    rw kind (revoke_tried _ c.requires.0 _ c.requires.1 (subst (Ranged c.args.c.assigns c.args.c.revokes c.args.c.users) kind c.requires.2) c.revoked-changed.ensures c.store_changed-in-Revoke.ensures)

pub returns-in-Join : goal.returns-in-Join
returns-in-Join c = rw c.in-Join.is (join_tried _ c.requires.0 _ c.requires.1 _)

pub returns-in-Leave : goal.returns-in-Leave
returns-in-Leave c = let kind = c.in-Leave.is in
    rw kind (leave_tried _ c.requires.0 _ c.requires.1 (subst (Ranged c.args.c.assigns c.args.c.revokes c.args.c.users) kind c.requires.2) c.left-changed.ensures c.store_changed-in-Leave.ensures)
