-- `fill` puts name after name into the tree; a name that is found stands twice.
use Rattle.std.proofs.Common.{ℕ, List, ◌+◌, ◌<◌, ◌≤◌, length, length-set, refl, add-one, arith}
use Rattle.distinct.specs.Plain.{plain_ordered}
use Rattle.distinct.specs.Tree.{tree_start, tree_planted}
use Rattle.distinct.specs.Walk.{Missing}
use Rattle.distinct.specs.declared.Name.{Name}
use Rattle.distinct.specs.Answers.{Named}
use Rattle.distinct.specs.Filling.{named-below, missing_inside, tree_grown}
use Rattle.distinct.proofs.fill.Goals as goal

-- the name ends in the field, the link's place is in it, and its slot is not far
inside : {field links : List ℕ} {heads from slot at : ℕ} {name : Name} → Named field heads from name → Missing field links heads name.head from slot at
    → (name.end ≤ length field) × (from ≤ name.end) × (at ≤ name.end) × (slot < heads + from)
inside named searched =
    let missing = missing_inside named searched in
    (named.inside, plain_ordered named.ends.plain, missing.0, missing.1)

pub loop-from-init : goal.loop-from-init
loop-from-init c = (omega arith, refl, tree_start _ _ _ c.requires.2)

pub seek-requires : goal.seek-requires
seek-requires c = let pre = c.requires in
    (pre.0, c.loop-from-test.true, pre.1.few, named-below c.name_at-name.ensures pre.1.some, tree_planted c.loop-from.invariant.2)

pub overflow_add-links : goal.overflow_add-links
overflow_add-links c = omega (arith, inside c.name_at-name.ensures c.in_ok-gap.ensures)

pub overflow_cast-links : goal.overflow_cast-links
overflow_cast-links c = omega (arith, inside c.name_at-name.ensures c.in_ok-gap.ensures)

pub loop-from-smaller : goal.loop-from-smaller
loop-from-smaller c = omega (arith, inside c.name_at-name.ensures c.in_ok-gap.ensures)

pub loop-from-preserved : goal.loop-from-preserved
loop-from-preserved c = let named = c.name_at-name.ensures in
    let missing = c.in_ok-gap.ensures in
    let inv = c.loop-from.invariant in
    (omega (arith, inside named missing), simp length-set inv.1, simp add-one (tree_grown named missing inv.2 (omega arith)))
