-- `write_policy` adds the header, the blocks and `end`, each where the one before it ends.
use Rattle.std.proofs.Common.{arith}
use Rattle.drafting.specs.BlockLaws.{policy_text_lem, policy_room}
use Rattle.inscribing.specs.Adding.{adds_as, adds_both, adds_all}
use Rattle.drafting.proofs.write_policy.Goals as goal

pub write_line-roles-requires : goal.write_line-roles-requires
write_line-roles-requires c = (c.requires.0, c.requires.1, omega (arith, policy_room _ _ c.requires.2))

pub write_block-users-requires : goal.write_block-users-requires
write_block-users-requires c = (c.requires.0, c.requires.1, omega (arith, policy_room _ _ c.requires.2))

pub write_block-has-requires : goal.write_block-has-requires
write_block-has-requires c = (c.requires.0, c.requires.1, omega (arith, policy_room _ _ c.requires.2))

pub write_block-assigns-requires : goal.write_block-assigns-requires
write_block-assigns-requires c = (c.requires.0, c.requires.1, omega (arith, policy_room _ _ c.requires.2))

pub write_block-revokes-requires : goal.write_block-revokes-requires
write_block-revokes-requires c = (c.requires.0, c.requires.1, omega (arith, policy_room _ _ c.requires.2))

pub write_block-goals-requires : goal.write_block-goals-requires
write_block-goals-requires c = (c.requires.0, c.requires.1, omega (arith, policy_room _ _ c.requires.2))

pub write_block-end-requires : goal.write_block-end-requires
write_block-end-requires c = (c.requires.0, c.requires.1, omega (arith, policy_room _ _ c.requires.2))

pub write_line-requires : goal.write_line-requires
write_line-requires c = (c.requires.0, c.requires.1, omega (arith, policy_room _ _ c.requires.2, c.write_line-roles.ensures.few, c.write_block-users.ensures.few))

pub returns : goal.returns
returns c = let header-roles = adds_both c.write_line-roles.ensures c.write_block-users.ensures in
    let to-has = adds_both (adds_both header-roles c.write_block-has.ensures) c.write_block-assigns.ensures in
    let to-revokes = adds_both (adds_both to-has c.write_block-revokes.ensures) c.write_block-goals.ensures in
    adds_all (adds_as (policy_text_lem _ _) (adds_both (adds_both to-revokes c.write_block-end.ensures) c.write_line.ensures)) c.requires.2
