-- `is_new` looks at what the holder of a has pair holds; no other entry stands above.
use Rattle.std.proofs.Common.{ℕ, ◌<◌, true, not, ◌≡◌, refl, sym, ap, subst, ◌∙◌, arith}
use Rattle.roles.specs.Sets.{has_role}
use Rattle.model.specs.declared.Person.{Person}
use Rattle.model.specs.Policy.{State, nobody, person}
use Rattle.ledgers.specs.Parts.{rows_in}
use Rattle.ledgers.specs.Ledger.{people}
use Rattle.ledgers.specs.PartLaws.{rows_at}
use Rattle.lines.specs.declared.Entry.{Entry}
use Rattle.lines.specs.LineLaws.{Fitting}
use Rattle.reading.specs.Policy.{is_new}
use Rattle.reading.proofs.entering.is_new.Goals as goal

-- an entry that is no has pair is new
no-pair : (σ : State) (e : Entry) → ((holder held : ℕ) → e ≡ Entry.Has holder held → ⊥) → true ≡ is_new σ e
unfolding is_new
no-pair σ Entry.Header other = refl
no-pair σ (Entry.Role name) other = refl
no-pair σ (Entry.User name clearance) other = refl
no-pair σ (Entry.Has holder held) other = absurd (other holder held refl)
no-pair σ (Entry.Assign rule) other = refl
no-pair σ (Entry.Revoke rule) other = refl
no-pair σ (Entry.Goal goal) other = refl
no-pair σ Entry.End other = refl

pub row_at-requires : goal.row_at-requires
row_at-requires c = let listed : c.in-Has.user < c.args.c.users = subst (Fitting c.args.c) c.in-Has.is c.requires.2 in
    (c.requires.0, omega (arith, listed, c.requires.1.users))

pub returns-in-Has : goal.returns-in-Has
unfolding is_new person
returns-in-Has c =
    let listed : c.in-Has.user < c.args.c.users = subst (Fitting c.args.c) c.in-Has.is c.requires.2 in
    ap not (c.has.ensures ∙ ap (λ (p : Person). has_role p.roles c.in-Has.role) (c.row_at.ensures ∙ sym (rows_at people c.args.ledger.now c.args.c.users c.in-Has.user nobody listed)))
    ∙ sym (ap (is_new (rows_in people c.args.ledger.now c.args.c.users)) c.in-Has.is)

pub returns-in_default : goal.returns-in_default
returns-in_default c = no-pair _ c.args.entry c.in_default.not-Has
