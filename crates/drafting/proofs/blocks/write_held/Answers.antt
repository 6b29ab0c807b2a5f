-- `write_held` goes through the roles; the invariant: the lines of the roles passed are added.
use Rattle.std.proofs.Common.{List, ◌<◌, ℕ, ◌+◌, ◌≤◌, length, ◌≡◌, refl, ap, arith}
use Rattle.roles.specs.Sets.{has_role}
use Rattle.roles.specs.declared.RoleSet.{RoleSet}
use Rattle.lines.specs.declared.Counts.{Counts}
use Rattle.ledgers.specs.Parts.{row_at}
use Rattle.ledgers.specs.Ledger.{people}
use Rattle.model.specs.declared.Person.{Person}
use Rattle.reading.specs.Ledger.{ledger_says}
use Rattle.drafting.specs.declared.Block.{Block}
use Rattle.drafting.specs.PolicyText.{element}
use Rattle.inscribing.specs.LineLaws.{lines_in}
use Rattle.drafting.specs.BlockLaws.{held_entry, held_below, held_start, held_grows, held_all}
use Rattle.inscribing.specs.Adding.{adds_none, adds_as, room_as, next_room, adds_next}
use Rattle.drafting.proofs.blocks.write_held.Goals as goal

-- the lines of all the roles are those of the element
all : (words : List ℕ) (n : Counts) (user : ℕ) {held : RoleSet} {role : ℕ} → role ≤ n.roles → n.roles ≤ role → user < n.users → held ≡ (row_at people words user).roles
    → lines_in words n (held_below user held role) ≡ lines_in words n (element (ledger_says words n) Block.Has user)
all words n user most least inside said = ap (lines_in words n) (held_all words n user most least inside said)

pub row_at-holder-requires : goal.row_at-holder-requires
row_at-holder-requires c = (c.requires.0, omega (arith, c.requires.2, c.requires.1.users))

pub loop-role-init : goal.loop-role-init
loop-role-init c = (refl, adds_as (held_start _ _ _ _) adds_none)

pub write_has-to-requires : goal.write_has-to-requires
write_has-to-requires c = let piece-fits : c.args.at + length (lines_in c.args.ledger.now c.args.c (held_below c.args.user c.row_at-holder.result.roles c.loop-role.role)) + length (lines_in c.args.ledger.now c.args.c (held_entry c.args.user c.loop-role.role (has_role c.row_at-holder.result.roles c.loop-role.role))) ≤ length c.args.out.now = next_room (held_grows c.args.ledger.now c.args.c c.args.user _) c.loop-role.role c.args.c.roles c.args.at c.loop-role-test.true (room_as _ (all _ _ _ (omega arith) (omega arith) c.requires.2 (ap (λ (p : Person). p.roles) c.row_at-holder.ensures)) c.requires.3) in (c.requires.0, c.requires.1, rw c.has-holds.ensures (omega (arith, c.loop-role.invariant.0, c.loop-role.invariant.1.few, piece-fits)))

pub loop-role-preserved : goal.loop-role-preserved
loop-role-preserved c = (omega (arith, c.loop-role.invariant.0), adds_next (held_grows _ _ _ _) c.loop-role.role c.loop-role.invariant.1 (rw c.has-holds.ensures at c.write_has-to.ensures))

pub returns : goal.returns
returns c = adds_as (all _ _ _ c.loop-role.auto.role-end c.loop-role-test.false c.requires.2 (ap (λ (p : Person). p.roles) c.row_at-holder.ensures)) c.loop-role.invariant.1
