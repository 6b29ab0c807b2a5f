-- `find` goes through the table: the place of the name is the places passed and its place in what is left.
use Rattle.std.proofs.Common.{◌≡◌, true, false, Some, sym, ap, ◌∙◌, zero-add, arith}
use Rattle.std.proofs.Math.Nat.{sub-zero}
use Rattle.tables.specs.declared.Name.{Name}
use Rattle.tables.specs.Names.{same_name}
use Rattle.tables.specs.NameLaws.{place_found, place_passed, place_none, rows_length}
use Rattle.tables.specs.Finding.{same_each_word, found_here, found_nowhere}
use Rattle.tables.proofs.Names.find.Goals as goal

pub loop-place-init : goal.loop-place-init
loop-place-init c = simp (sub-zero, zero-add)

pub returns-then-eq : goal.returns-then-eq
returns-then-eq c =
    let same : same_name c.row.result c.args.name ≡ true = sym (same_each_word _ _) ∙ sym c.eq.ensures ∙ c.if-eq.true in
    let at = place_found c.args.self.words.now c.args.self.count c.loop-place.place c.args.name c.loop-place-test.true c.loop-place.invariant (ap (λ (m : Name). same_name m c.args.name) (sym c.row.ensures) ∙ same) in
    ap Some at ∙ found_here _ _ (omega (arith, at, rows_length c.args.self.count c.args.self.words.now))

pub loop-place-preserved : goal.loop-place-preserved
loop-place-preserved c =
    let other : same_name c.row.result c.args.name ≡ false = sym (same_each_word _ _) ∙ sym c.eq.ensures ∙ c.if-eq.false in
    place_passed _ _ _ _ c.loop-place-test.true c.loop-place.invariant (ap (λ (m : Name). same_name m c.args.name) (sym c.row.ensures) ∙ other)

pub returns : goal.returns
returns c =
    let none = place_none c.args.self.words.now c.args.self.count c.loop-place.place c.args.name c.loop-place-test.false c.loop-place.invariant in
    found_nowhere _ _ (omega (arith, none, rows_length c.args.self.count c.args.self.words.now))
