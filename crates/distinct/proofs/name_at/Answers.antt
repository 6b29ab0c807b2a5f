-- `name_at` goes from byte to byte of the name: the number mixed so far is that of the bytes before the place.
use Rattle.std.proofs.Common.{ℕ, ◌+◌, ◌*◌, ◌/◌, ◌≤◌, rules, length, List, ◌≡◌, refl, sym, ap, ◌∙◌, mul-le-mul, add-one, arith}
use Rattle.distinct.specs.Names.{symbol, symbol_there}
use Rattle.distinct.specs.Plain.{none, more}
use Rattle.distinct.specs.Heads.{mixed, head_of, mixed-next, mixed_small}
use Rattle.distinct.proofs.name_at.Goals as goal

-- the number is below 65536
small : (factor : ℕ) (bytes : List ℕ) {sum : ℕ} → sum ≡ mixed factor bytes → sum ≤ 65536
small factor bytes same = omega (arith, same, mixed_small factor bytes)

pub loop-head-init : goal.loop-head-init
unfolding mixed
loop-head-init c = (search rules, rw c.requires.3 refl, none)

pub overflow_mul-head : goal.overflow_mul-head
overflow_mul-head c = omega (arith, mul-le-mul {n₂ = 65536} (small _ _ c.loop-head.invariant.1) c.requires.2)

pub returns-then-byte-eq44 : goal.returns-then-byte-eq44
unfolding head_of
returns-then-byte-eq44 c = let inv = c.loop-head.invariant in
    record {
      ends = record { plain = inv.2; comma = sym c.symbol_at-byte.ensures ∙ c.if-byte-eq44.true };
      inside = inv.0;
      head = ap (λ (n : ℕ). n * c.args.heads / 65536) inv.1;
    }

pub overflow_add-sum : goal.overflow_add-sum
overflow_add-sum c = omega (arith, small _ _ c.loop-head.invariant.1)

pub overflow_mul-sum : goal.overflow_mul-sum
overflow_mul-sum c = let low : c.loop-head.sum + c.symbol_at-byte.result ≤ 65792 = omega (arith, small _ _ c.loop-head.invariant.1) in
    let high : 40503 + 2 * length c.args.field.now ≤ 106039 = omega arith in
    omega (arith, mul-le-mul low high)

pub overflow_add-at : goal.overflow_add-at
overflow_add-at c = omega arith

pub loop-head-smaller : goal.loop-head-smaller
loop-head-smaller c = omega arith

pub loop-head-preserved : goal.loop-head-preserved
loop-head-preserved c = let inv = c.loop-head.invariant in
    let field = c.args.field.now in
    let at = c.loop-head.at in
    let other : symbol field at ≡ 44 → ⊥ = λ comma. c.if-byte-eq44.false (c.symbol_at-byte.ensures ∙ comma) in (
      omega (arith, symbol_there field at other),
      mixed-next _ field at inv.1 c.symbol_at-byte.ensures c.if-byte-eq44.false,
      rw add-one (more inv.2 other),
    )
