-- `block_size` is the count of what a block has an element for.
use Rattle.std.proofs.Common.{sym}
use Rattle.ledgers.specs.PartLaws.{rows_length}
use Rattle.ledgers.specs.Ledger.{role_names, user_names, assign_rules, revoke_rules, goal_sets}
use Rattle.reading.specs.Ledger.{ledger_says}
use Rattle.drafting.specs.PolicyText.{block_size}
use Rattle.drafting.proofs.blocks.block_size.Goals as goal

pub returns-in-Roles : goal.returns-in-Roles
unfolding block_size ledger_says
returns-in-Roles c = λ words. rw c.in-Roles.is (sym (rows_length role_names words _))

pub returns-in-Users : goal.returns-in-Users
unfolding block_size ledger_says
returns-in-Users c = λ words. rw c.in-Users.is (sym (rows_length user_names words _))

pub returns-in-Has : goal.returns-in-Has
unfolding block_size ledger_says
returns-in-Has c = λ words. rw c.in-Has.is (sym (rows_length user_names words _))

pub returns-in-Assigns : goal.returns-in-Assigns
unfolding block_size ledger_says
returns-in-Assigns c = λ words. rw c.in-Assigns.is (sym (rows_length assign_rules words _))

pub returns-in-Revokes : goal.returns-in-Revokes
unfolding block_size ledger_says
returns-in-Revokes c = λ words. rw c.in-Revokes.is (sym (rows_length revoke_rules words _))

pub returns-in-Goals : goal.returns-in-Goals
unfolding block_size ledger_says
returns-in-Goals c = λ words. rw c.in-Goals.is (sym (rows_length goal_sets words _))
