-- `seek` follows the name in the tree as `Walk` does. Each step leads to a later place of the tree, so the places left are the measure.
use Rattle.std.proofs.Common.{ℕ, suc, ◌-◌, ◌<◌, List, ◌≡◌, sym, ◌∙◌, add-one, arith}
use Rattle.distinct.specs.Walk.{Walk, walk_start, missing_start, walk_same, walk_other, missing_other, walk_twice}
use Rattle.distinct.proofs.seek.Goals as goal

-- the place in the tree is before the name
early : {field links : List ℕ} {heads head from at place : ℕ} → Walk field links heads head from at place → place < from
early walk = omega (arith, walk.early, walk.planted.order)

-- the byte looked for, and another
same : {there here a b : ℕ} → a ≡ there → b ≡ here → a ≡ b → there ≡ here
same p q e = sym p ∙ e ∙ q

other : {there here a b : ℕ} → a ≡ there → b ≡ here → (a ≡ b → ⊥) → there ≡ here → ⊥
other p q less e = less (p ∙ e ∙ sym q)

-- the link that leads on
held : {next link : ℕ} → next ≡ link → (next ≡ 0 → ⊥) → link ≡ suc (next - 1)
held same some = omega arith

pub returns-then-first-eq0 : goal.returns-then-first-eq0
returns-then-first-eq0 c = let pre = c.requires in
    missing_start pre.4 pre.3 (sym c.link_at-first.ensures ∙ c.if-first-eq0.true)

pub overflow_sub-place : goal.overflow_sub-place
overflow_sub-place c = omega arith

pub loop-heads-init : goal.loop-heads-init
loop-heads-init c = let pre = c.requires in
    walk_start pre.4 pre.3 pre.1 (omega (arith, c.link_at-first.ensures))

pub returns-then-byte-eq44 : goal.returns-then-byte-eq44
returns-then-byte-eq44 c = walk_twice c.loop-heads.invariant (same c.symbol_at.ensures c.symbol_at-byte.ensures c.if-symbol_at-byte.true) (sym c.symbol_at-byte.ensures ∙ c.if-byte-eq44.true)

pub overflow_add-at : goal.overflow_add-at
overflow_add-at c = omega arith

pub overflow_add-place : goal.overflow_add-place
overflow_add-place c = omega (arith, early c.loop-heads.invariant)

pub loop-heads-smaller-then-symbol_at-byte : goal.loop-heads-smaller-then-symbol_at-byte
loop-heads-smaller-then-symbol_at-byte c = omega (arith, early c.loop-heads.invariant)

pub loop-heads-preserved-then-symbol_at-byte : goal.loop-heads-preserved-then-symbol_at-byte
loop-heads-preserved-then-symbol_at-byte c = simp add-one
    (walk_same c.loop-heads.invariant (same c.symbol_at.ensures c.symbol_at-byte.ensures c.if-symbol_at-byte.true) (λ comma. c.if-byte-eq44.false (c.symbol_at-byte.ensures ∙ comma)))

pub overflow_add-slot : goal.overflow_add-slot
overflow_add-slot c = omega (arith, early c.loop-heads.invariant)

pub returns-then-next-eq0 : goal.returns-then-next-eq0
returns-then-next-eq0 c = missing_other c.loop-heads.invariant (other c.symbol_at.ensures c.symbol_at-byte.ensures c.if-symbol_at-byte.false) (sym c.link_at-next.ensures ∙ c.if-next-eq0.true)

pub overflow_sub-place-else-symbol_at-byte : goal.overflow_sub-place-else-symbol_at-byte
overflow_sub-place-else-symbol_at-byte c = omega arith

pub loop-heads-smaller : goal.loop-heads-smaller
loop-heads-smaller c = omega (arith, early c.loop-heads.invariant, c.loop-heads.invariant.planted.tree.rising _ _ (held c.link_at-next.ensures c.if-next-eq0.false))

pub loop-heads-preserved : goal.loop-heads-preserved
loop-heads-preserved c = walk_other c.loop-heads.invariant (other c.symbol_at.ensures c.symbol_at-byte.ensures c.if-symbol_at-byte.false) (held c.link_at-next.ensures c.if-next-eq0.false)
