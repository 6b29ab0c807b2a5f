-- `meets` looks up name after name in the tree: none up to a place is among those of the tree.
use Rattle.std.proofs.Common.{ℕ, List, ◌≤◌, length, not, ap, ◌∙◌, add-one, arith}
use Rattle.std.proofs.lemmas.Bool.{false≢true}
use Rattle.distinct.specs.Names.{before_comma}
use Rattle.distinct.specs.Plain.{plain_ordered}
use Rattle.distinct.specs.Blocks.{apart_next, tree_apart}
use Rattle.distinct.specs.declared.Name.{Name}
use Rattle.distinct.specs.Answers.{Named}
use Rattle.distinct.specs.Filling.{named-below, unfound_new}
use Rattle.distinct.proofs.meets.Goals as goal

-- the name ends in the field
ends : {field : List ℕ} {heads from : ℕ} {name : Name} → Named field heads from name → (name.end ≤ length field) × (from ≤ name.end)
ends named = (named.inside, plain_ordered named.ends.plain)

pub seek-requires : goal.seek-requires
seek-requires c = let pre = c.requires in
    let inv = c.loop-from.invariant in (
      pre.0,
      c.loop-from-test.true,
      pre.2.few,
      named-below c.name_at-name.ensures pre.2.some,
      record { begins = inv.2; limit = c.args.limit; order = inv.0; tree = pre.3 },
    )

pub loop-from-smaller : goal.loop-from-smaller
loop-from-smaller c = omega (arith, ends c.name_at-name.ensures)

pub loop-from-preserved : goal.loop-from-preserved
loop-from-preserved c = let named = c.name_at-name.ensures in
    let inv = c.loop-from.invariant in
    let new = unfound_new c.seek.result (c.is_none.ensures ∙ ap not c.if-is_none.false) named c.seek.ensures c.requires.3 in (
      omega (arith, ends named),
      omega (arith, ends named),
      rw add-one (before_comma _ _ named.ends.comma),
      rw add-one (apart_next inv.3 named.ends new),
    )

pub returns : goal.returns
returns c = record {
  twice = λ told. absurd (false≢true told);
  once = λ told. tree_apart c.requires.3 c.loop-from.invariant.3 c.requires.1 c.loop-from-test.false;
}
