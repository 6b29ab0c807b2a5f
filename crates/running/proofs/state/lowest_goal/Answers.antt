-- `lowest_goal` goes through the goals; the invariant: none before the place is held whole.
use Rattle.std.proofs.Common.{Some, sym, ap, ◌∙◌, add-one}
use Rattle.std.specs.Prelude.{suc, option_map}
use Rattle.roles.specs.Sets.{includes}
use Rattle.steps.specs.Tests.{lowest_goal}
use Rattle.running.specs.Looking.{first_here, first_nowhere}
use Rattle.running.proofs.state.lowest_goal.Goals as goal

pub returns-then-within : goal.returns-then-within
unfolding lowest_goal
returns-then-within c =
    ap Some (add-one c.loop-place.place)
    ∙ sym (ap (option_map suc) (first_here c.loop-place.invariant c.loop-place-test.true (sym (c.within.ensures ∙ ap (includes c.args.roles) c.row_at.ensures) ∙ c.if-within.true)))

pub returns : goal.returns
unfolding lowest_goal
returns c = sym (ap (option_map suc) (first_nowhere c.loop-place.invariant c.loop-place-test.false))
