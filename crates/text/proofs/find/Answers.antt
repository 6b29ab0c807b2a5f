-- `find` goes through the bytes one by one, by what each says of the place of the first mark.
use Rattle.std.proofs.Common.{ℕ, suc, ◌+◌, ◌≤◌, ◌<◌, Bool, List, ◌≡◌, ◌≢◌, sym, ap, ◌∙◌, eqb, eq-eqb, length, get_or, drop, drop-cons, drop_of_length-le, true≢false, arith}
use Rattle.std.proofs.lemmas.Bool.{ne_eqb}
use Rattle.text.specs.Index.{index_of, index_after}
use Rattle.text.specs.Eights.{eight_clear, clear_past}
use Rattle.text.specs.Pieces.{Sought}
use Rattle.text.proofs.find.Goals as goal

-- the place after the byte at hand
step : (s : List ℕ) (at mark : ℕ) → at < length s → index_of mark (drop at s) ≡ index_after (eqb (get_or s at 0) mark) (index_of mark (drop (suc at) s))
unfolding index_of
step s at mark here = ap (index_of mark) (drop-cons s at 0 here)

-- it is the one sought
here : (s : List ℕ) (at mark : ℕ) → at < length s → get_or s at 0 ≡ mark → index_of mark (drop at s) ≡ 0
unfolding index_after
here s at mark within is = step s at mark within ∙ ap (λ (b : Bool). index_after b (index_of mark (drop (suc at) s))) (eq-eqb _ _ is)

-- it is another one
other : (s : List ℕ) (at mark : ℕ) → at < length s → get_or s at 0 ≢ mark → index_of mark (drop at s) ≡ suc (index_of mark (drop (suc at) s))
unfolding index_after
other s at mark within not = step s at mark within ∙ ap (λ (b : Bool). index_after b (index_of mark (drop (suc at) s))) (ne_eqb _ _ not)

-- there is none left
past : (s : List ℕ) (at mark : ℕ) → length s ≤ at → index_of mark (drop at s) ≡ 0
unfolding index_of
past s at mark end = ap (index_of mark) (drop_of_length-le s end)

pub returns-then-at-s : goal.returns-then-at-s
returns-then-at-s c = record { first = omega (arith, c.loop-i.invariant.1, past c.args.s.now (c.args.from + c.loop-i.i) c.args.mark (omega arith)); within = omega arith }

pub returns-then-s-at : goal.returns-then-s-at
returns-then-s-at c = record { first = omega (arith, c.loop-i.invariant.1, here c.args.s.now (c.args.from + c.loop-i.i) c.args.mark (omega arith) c.if-s-at.true); within = omega arith }

pub loop-i-preserved : goal.loop-i-preserved
loop-i-preserved c =
    let next : suc (c.args.from + c.loop-i.i) ≡ c.args.from + (c.loop-i.i + 1) = omega arith in
    (omega arith, omega (arith, c.loop-i.invariant.1, other c.args.s.now (c.args.from + c.loop-i.i) c.args.mark (omega arith) c.if-s-at.false ∙ ap (λ (at : ℕ). suc (index_of c.args.mark (drop at c.args.s.now))) next))

pub returns : goal.returns
returns c =
    let all : 8 ≤ index_of c.args.mark (drop c.args.from c.args.s.now) = omega (arith, c.loop-i.invariant.1) in
    absurd (true≢false (sym (clear_past c.args.mark c.args.s.now c.args.from (omega arith) all) ∙ c.requires.1))
