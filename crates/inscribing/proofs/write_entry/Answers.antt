-- `write_entry` goes by the kind of the entry; each line is written in its own pieces, by the names that stand in the ledger.
use Rattle.inscribing.specs.LineLaws.{header_in, role_in, user_in, has_in, assign_in, revoke_in, goal_in, end_in}
use Rattle.inscribing.specs.Adding.{adds_as, room_as}
use Rattle.inscribing.proofs.write_entry.Goals as goal

pub write_piece-requires : goal.write_piece-requires
write_piece-requires c = room_as _ (header_in _ _ c.in-Header.is) c.requires.2

pub named_line-requires : goal.named_line-requires
named_line-requires c = room_as _ (role_in _ _ c.in-Role.is) c.requires.2

pub user_line-requires : goal.user_line-requires
user_line-requires c = room_as _ (user_in _ _ c.in-User.is) c.requires.2

pub pair_line-requires : goal.pair_line-requires
pair_line-requires c = room_as _ (has_in _ _ c.in-Has.is c.at-holder.ensures c.at-held.ensures) c.requires.2

pub assign_line-requires : goal.assign_line-requires
assign_line-requires c = (c.requires.1.roles, room_as _ (assign_in _ _ c.in-Assign.is) c.requires.2)

pub pair_line-requires-in-Revoke : goal.pair_line-requires-in-Revoke
pair_line-requires-in-Revoke c = room_as _ (revoke_in _ _ c.in-Revoke.is c.at-admin.ensures c.at-target.ensures) c.requires.2

pub goal_line-requires : goal.goal_line-requires
goal_line-requires c = (c.requires.1.roles, room_as _ (goal_in _ _ c.in-Goal.is) c.requires.2)

pub write_piece-requires-in-End : goal.write_piece-requires-in-End
write_piece-requires-in-End c = room_as _ (end_in _ _ c.in-End.is) c.requires.2

pub returns-in-Header : goal.returns-in-Header
returns-in-Header c = adds_as (header_in _ _ c.in-Header.is) c.write_piece.ensures

pub returns-in-Role : goal.returns-in-Role
returns-in-Role c = adds_as (role_in _ _ c.in-Role.is) c.named_line.ensures

pub returns-in-User : goal.returns-in-User
returns-in-User c = adds_as (user_in _ _ c.in-User.is) c.user_line.ensures

pub returns-in-Has : goal.returns-in-Has
returns-in-Has c = adds_as (has_in _ _ c.in-Has.is c.at-holder.ensures c.at-held.ensures) c.pair_line.ensures

pub returns-in-Assign : goal.returns-in-Assign
returns-in-Assign c = adds_as (assign_in _ _ c.in-Assign.is) c.assign_line.ensures

pub returns-in-Revoke : goal.returns-in-Revoke
returns-in-Revoke c = adds_as (revoke_in _ _ c.in-Revoke.is c.at-admin.ensures c.at-target.ensures) c.pair_line-in-Revoke.ensures

pub returns-in-Goal : goal.returns-in-Goal
returns-in-Goal c = adds_as (goal_in _ _ c.in-Goal.is) c.goal_line.ensures

pub returns-in-End : goal.returns-in-End
returns-in-End c = adds_as (end_in _ _ c.in-End.is) c.write_piece-in-End.ensures
