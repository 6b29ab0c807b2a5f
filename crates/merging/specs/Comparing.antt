-- Two tables of names compared word by word.
use Rattle.std.specs.Prelude.{ℕ, zero, suc, ◌*◌, ◌≤◌, Bool, true, false, ◌&&◌, List, [], ◌∷◌, ◌≡◌, refl, eqb, length, take, drop}
use Rattle.std.specs.Cmp.Lexicographic.{pointwise}
use Rattle.std.proofs.Common.{◌∙◌, length-drop, arith}
use Rattle.std.proofs.Math.Path.{ap, ap₂}
use Rattle.tables.specs.Names.{same_name, row_of, rows}

-- the first four words, and the rest
first_four : (table : List ℕ) → 4 ≤ length table → table ≡ (row_of table).first ∷ (row_of table).second ∷ (row_of table).third ∷ (row_of table).fourth ∷ drop 4 table
unfolding row_of
first_four [] room = absurd (omega arith)
first_four (a ∷ []) room = absurd (omega arith)
first_four (a ∷ b ∷ []) room = absurd (omega arith)
first_four (a ∷ b ∷ c ∷ []) room = absurd (omega arith)
first_four (a ∷ b ∷ c ∷ d ∷ rest) room = refl

-- Two tables have the same names exactly where they have the same words.
pub same_names : (count : ℕ) (one two : List ℕ) → 4 * count ≤ length one → 4 * count ≤ length two
    → pointwise eqb (take (4 * count) one) (take (4 * count) two) ≡ pointwise same_name (rows count one) (rows count two)
unfolding same_name rows
same_names zero one two room other = refl
same_names (suc count) one two room other =
    let more : 4 * suc count ≡ suc (suc (suc (suc (4 * count)))) = omega arith in
    let rest = same_names count (drop 4 one) (drop 4 two) (omega (arith, length-drop 4 one)) (omega (arith, length-drop 4 two)) in
    ap (λ (k : ℕ). pointwise eqb (take k one) (take k two)) more
    ∙ ap₂ (λ (a b : List ℕ). pointwise eqb (take (suc (suc (suc (suc (4 * count))))) a) (take (suc (suc (suc (suc (4 * count))))) b)) (first_four one (omega arith)) (first_four two (omega arith))
    ∙ grouped (eqb (row_of one).first (row_of two).first) (eqb (row_of one).second (row_of two).second) (eqb (row_of one).third (row_of two).third) (eqb (row_of one).fourth (row_of two).fourth) rest
  where
    grouped : (a b c d : Bool) {e f : Bool} → e ≡ f → (a && (b && (c && (d && e)))) ≡ (a && b && c && d && f)
    grouped true true true d e = ap (λ (x : Bool). d && x) e
    grouped true true false d e = refl
    grouped true false c d e = refl
    grouped false b c d e = refl
