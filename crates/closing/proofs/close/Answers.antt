-- `close` takes one round after another, by what its callees promise of each.
use Rattle.std.proofs.Common.{◌-◌, ◌≡◌, refl, sym, ◌∙◌, arith}
use Rattle.roles.specs.Sets.{same_set}
use Rattle.sheets.specs.Words.{said_in}
use Rattle.closing.specs.Rounds.{rounds_of, close_of}
use Rattle.closing.specs.News.{noted_start}
use Rattle.closing.proofs.Reached.{Taken, stops, goes_on, next_here, news_here, test_here}
use Rattle.closing.proofs.close.Goals as goal

pub loop-init : goal.loop-init
unfolding close_of
loop-init c = record { most = omega arith; noted = noted_start _ _; left = refl }

pub returns-then-eq : goal.returns-then-eq
unfolding said_in same_set
returns-then-eq c =
    let so_far = c.loop.invariant in
    let taken : Taken (said_in c.args.sheet.now) c.loop.now c.loop.news _ _ _ _ _ _ = record {
      needing_is = c.sets_of-needing.ensures;
      barred_is = c.sets_of-barred.ensures;
      joined_is = c.union.ensures;
      absent_is = c.union-absent.ensures;
      brought_is = c.sets_of.ensures;
      held_is = c.union-held.ensures;
    } in
    let nothing = test_here so_far.noted taken c.less.ensures c.less-in-loop.ensures c.empty.ensures c.empty-2.ensures c.eq.ensures in
    next_here so_far.noted taken ∙ stops _ so_far (omega arith) (sym nothing ∙ c.if-eq.true)

pub loop-preserved : goal.loop-preserved
unfolding said_in same_set
loop-preserved c =
    let so_far = c.loop.invariant in
    let taken : Taken (said_in c.args.sheet.now) c.loop.now c.loop.news _ _ _ _ _ _ = record {
      needing_is = c.sets_of-needing.ensures;
      barred_is = c.sets_of-barred.ensures;
      joined_is = c.union.ensures;
      absent_is = c.union-absent.ensures;
      brought_is = c.sets_of.ensures;
      held_is = c.union-held.ensures;
    } in
    let nothing = test_here so_far.noted taken c.less.ensures c.less-in-loop.ensures c.empty.ensures c.empty-2.ensures c.eq.ensures in
    rw (next_here so_far.noted taken, news_here so_far.noted taken c.less.ensures c.less-in-loop.ensures) (goes_on _ so_far (omega arith) (sym nothing ∙ c.if-eq.false))

pub returns : goal.returns
unfolding rounds_of
returns c = let none : 256 - c.loop.counter ≡ 0 = omega arith in
    sym (rw none at c.loop.invariant.left)
