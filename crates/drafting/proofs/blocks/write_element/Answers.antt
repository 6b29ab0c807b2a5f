-- `write_element` goes by the block; each line says what stands at the place in the ledger.
use Rattle.std.proofs.Common.{ap, arith}
use Rattle.inscribing.specs.LineLaws.{lines_in}
use Rattle.drafting.specs.BlockLaws.{role_below, user_below, holder_below, assign_below, revoke_below, goal_below, role_element, user_element, has_element, assign_element, revoke_element, goal_element}
use Rattle.inscribing.specs.Adding.{adds_as, room_as}
use Rattle.drafting.proofs.blocks.write_element.Goals as goal

pub row_at-name-requires : goal.row_at-name-requires
row_at-name-requires c = (c.requires.0, omega (arith, c.requires.1.roles, role_below c.args.ledger.now c.args.c c.args.place c.in-Roles.is c.requires.2))

pub write_line-requires : goal.write_line-requires
write_line-requires c = (c.requires.0, c.requires.1, room_as _ (ap (lines_in _ _) (role_element _ _ _ c.in-Roles.is c.requires.2 c.row_at-name.ensures)) c.requires.3)

pub row_at-name-requires-in-Users : goal.row_at-name-requires-in-Users
row_at-name-requires-in-Users c = (c.requires.0, omega (arith, c.requires.1.users, user_below c.args.ledger.now c.args.c c.args.place c.in-Users.is c.requires.2))

pub row_at-user-requires : goal.row_at-user-requires
row_at-user-requires c = (c.requires.0, omega (arith, c.requires.1.users, user_below c.args.ledger.now c.args.c c.args.place c.in-Users.is c.requires.2))

pub write_line-requires-in-Users : goal.write_line-requires-in-Users
write_line-requires-in-Users c = (c.requires.0, c.requires.1, room_as _ (ap (lines_in _ _) (user_element _ _ _ c.in-Users.is c.requires.2 c.row_at-name-in-Users.ensures c.row_at-user.ensures)) c.requires.3)

pub write_held-requires : goal.write_held-requires
write_held-requires c = (c.requires.0, c.requires.1, holder_below _ _ _ c.in-Has.is c.requires.2, room_as _ (ap (lines_in _ _) (has_element _ _ _ c.in-Has.is)) c.requires.3)

pub row_at-rule-requires : goal.row_at-rule-requires
row_at-rule-requires c = (c.requires.0, omega (arith, c.requires.1.assigns, assign_below c.args.ledger.now c.args.c c.args.place c.in-Assigns.is c.requires.2))

pub write_line-requires-in-Assigns : goal.write_line-requires-in-Assigns
write_line-requires-in-Assigns c = (c.requires.0, c.requires.1, room_as _ (ap (lines_in _ _) (assign_element _ _ _ c.in-Assigns.is c.requires.2 c.row_at-rule.ensures)) c.requires.3)

pub row_at-rule-requires-in-Revokes : goal.row_at-rule-requires-in-Revokes
row_at-rule-requires-in-Revokes c = (c.requires.0, omega (arith, c.requires.1.revokes, revoke_below c.args.ledger.now c.args.c c.args.place c.in-Revokes.is c.requires.2))

pub write_line-requires-in-Revokes : goal.write_line-requires-in-Revokes
write_line-requires-in-Revokes c = (c.requires.0, c.requires.1, room_as _ (ap (lines_in _ _) (revoke_element _ _ _ c.in-Revokes.is c.requires.2 c.row_at-rule-in-Revokes.ensures)) c.requires.3)

pub row_at-goal-requires : goal.row_at-goal-requires
row_at-goal-requires c = (c.requires.0, omega (arith, c.requires.1.goals, goal_below c.args.ledger.now c.args.c c.args.place c.in-Goals.is c.requires.2))

pub write_line-requires-in-Goals : goal.write_line-requires-in-Goals
write_line-requires-in-Goals c = (c.requires.0, c.requires.1, room_as _ (ap (lines_in _ _) (goal_element _ _ _ c.in-Goals.is c.requires.2 c.row_at-goal.ensures)) c.requires.3)

pub returns-in-Roles : goal.returns-in-Roles
returns-in-Roles c = adds_as (ap (lines_in _ _) (role_element _ _ _ c.in-Roles.is c.requires.2 c.row_at-name.ensures)) c.write_line.ensures

pub returns-in-Users : goal.returns-in-Users
returns-in-Users c = adds_as (ap (lines_in _ _) (user_element _ _ _ c.in-Users.is c.requires.2 c.row_at-name-in-Users.ensures c.row_at-user.ensures)) c.write_line-in-Users.ensures

pub returns-in-Has : goal.returns-in-Has
returns-in-Has c = adds_as (ap (lines_in _ _) (has_element _ _ _ c.in-Has.is)) c.write_held.ensures

pub returns-in-Assigns : goal.returns-in-Assigns
returns-in-Assigns c = adds_as (ap (lines_in _ _) (assign_element _ _ _ c.in-Assigns.is c.requires.2 c.row_at-rule.ensures)) c.write_line-in-Assigns.ensures

pub returns-in-Revokes : goal.returns-in-Revokes
returns-in-Revokes c = adds_as (ap (lines_in _ _) (revoke_element _ _ _ c.in-Revokes.is c.requires.2 c.row_at-rule-in-Revokes.ensures)) c.write_line-in-Revokes.ensures

pub returns-in-Goals : goal.returns-in-Goals
returns-in-Goals c = adds_as (ap (lines_in _ _) (goal_element _ _ _ c.in-Goals.is c.requires.2 c.row_at-goal.ensures)) c.write_line-in-Goals.ensures
