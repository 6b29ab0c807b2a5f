-- `enter` stores the entry in the row past those of its part, or in the holder's row, and the other parts stay.
use Rattle.std.proofs.Common.{ℕ, ◌+◌, ◌*◌, List, ◌≡◌, sym, ap, ap₂, subst, ◌∙◌, length, arith}
use Rattle.std.proofs.Math.Seq.{length-sets}
use Rattle.model.specs.declared.Person.{Person}
use Rattle.model.specs.Policy.{with_role}
use Rattle.ledgers.specs.Parts.{stored}
use Rattle.ledgers.specs.Ledger.{user_names, people}
use Rattle.lines.specs.declared.Counts.{Counts}
use Rattle.lines.specs.declared.Entry.{Entry}
use Rattle.lines.specs.LineLaws.{Fitting}
use Rattle.reading.specs.Policy.{kind_of, noted, added}
use Rattle.reading.specs.Ledger.{ledger_says}
use Rattle.reading.specs.Entering.{role_entered, user_entered, has_entered, assign_entered, revoke_entered, goal_entered}
use Rattle.reading.proofs.entering.enter.Goals as goal

-- the entry is the one that the stores are for
module _ (words : List ℕ) (c d : Counts) {there stores : List ℕ} {e entry : Entry} where
  entered-as : there ≡ stores → ledger_says stores d ≡ added (ledger_says words c) e → entry ≡ e → ledger_says there d ≡ added (ledger_says words c) entry
  entered-as held enters says = ap (λ (l : List ℕ). ledger_says l d) held ∙ enters ∙ ap (added (ledger_says words c)) (sym says)

-- there is room for it
room : (c : Counts) {entry e : Entry} → entry ≡ e → Fitting c entry → Fitting c e
room c says fits = subst (Fitting c) says fits

pub store_row-requires : goal.store_row-requires
store_row-requires c = (c.requires.0, room c.args.c c.in-Role.is c.requires.2)

pub store_row-requires-in-User : goal.store_row-requires-in-User
store_row-requires-in-User c = (c.requires.0, room c.args.c c.in-User.is c.requires.2)

pub store_row-requires-in-User-2 : goal.store_row-requires-in-User-2
store_row-requires-in-User-2 c = (omega (arith, c.requires.0, ap length c.store_row-in-User.ensures, length-sets c.args.ledger.now (512 + 4 * c.args.c.users) (user_names.rows.row c.in-User.name)), room c.args.c c.in-User.is c.requires.2)

pub row_at-holder-requires : goal.row_at-holder-requires
row_at-holder-requires c = (c.requires.0, omega (arith, room c.args.c c.in-Has.is c.requires.2, c.requires.1.users))

pub store_row-requires-in-Has : goal.store_row-requires-in-Has
store_row-requires-in-Has c = (c.requires.0, omega (arith, room c.args.c c.in-Has.is c.requires.2, c.requires.1.users))

pub store_row-requires-in-Assign : goal.store_row-requires-in-Assign
store_row-requires-in-Assign c = (c.requires.0, room c.args.c c.in-Assign.is c.requires.2)

pub store_row-requires-in-Revoke : goal.store_row-requires-in-Revoke
store_row-requires-in-Revoke c = (c.requires.0, room c.args.c c.in-Revoke.is c.requires.2)

pub store_row-requires-in-Goal : goal.store_row-requires-in-Goal
store_row-requires-in-Goal c = (c.requires.0, room c.args.c c.in-Goal.is c.requires.2)

pub returns-in-Header : goal.returns-in-Header
unfolding ledger_says added noted kind_of
returns-in-Header c = ap (added (ledger_says c.args.ledger.now c.args.c)) (sym c.in-Header.is)

pub returns-in-Role : goal.returns-in-Role
returns-in-Role c = entered-as c.args.ledger.now c.args.c _ c.store_row.ensures (role_entered c.args.ledger.now c.args.c c.requires.0 c.requires.1 c.in-Role.name (room c.args.c c.in-Role.is c.requires.2)) c.in-Role.is

pub returns-in-User : goal.returns-in-User
returns-in-User c = entered-as c.args.ledger.now c.args.c _
    (c.store_row-in-User-2.ensures ∙ ap₂ (λ (words : List ℕ) (p : Person). stored people words c.args.c.users p) c.store_row-in-User.ensures c.newcomer-user.ensures)
    (user_entered c.args.ledger.now c.args.c c.requires.0 c.requires.1 c.in-User.name c.in-User.clearance (room c.args.c c.in-User.is c.requires.2)) c.in-User.is

pub returns-in-Has : goal.returns-in-Has
returns-in-Has c = let holder = c.in-Has.user in
    let role = c.in-Has.role in
    entered-as c.args.ledger.now c.args.c _
    (c.store_row-in-Has.ensures ∙ ap (stored people c.args.ledger.now holder) (c.with_role.ensures ∙ ap (λ (p : Person). with_role p role) c.row_at-holder.ensures))
    (has_entered c.args.ledger.now c.args.c c.requires.0 c.requires.1 holder role (room c.args.c c.in-Has.is c.requires.2)) c.in-Has.is

pub returns-in-Assign : goal.returns-in-Assign
returns-in-Assign c = entered-as c.args.ledger.now c.args.c _ c.store_row-in-Assign.ensures (assign_entered c.args.ledger.now c.args.c c.requires.0 c.requires.1 c.in-Assign.rule (room c.args.c c.in-Assign.is c.requires.2)) c.in-Assign.is

pub returns-in-Revoke : goal.returns-in-Revoke
returns-in-Revoke c = entered-as c.args.ledger.now c.args.c _ c.store_row-in-Revoke.ensures (revoke_entered c.args.ledger.now c.args.c c.requires.0 c.requires.1 c.in-Revoke.rule (room c.args.c c.in-Revoke.is c.requires.2)) c.in-Revoke.is

pub returns-in-Goal : goal.returns-in-Goal
returns-in-Goal c = entered-as c.args.ledger.now c.args.c _ c.store_row-in-Goal.ensures (goal_entered c.args.ledger.now c.args.c c.requires.0 c.requires.1 c.in-Goal.goal (room c.args.c c.in-Goal.is c.requires.2)) c.in-Goal.is

pub returns-in-End : goal.returns-in-End
unfolding ledger_says added noted kind_of
returns-in-End c = ap (added (ledger_says c.args.ledger.now c.args.c)) (sym c.in-End.is)
