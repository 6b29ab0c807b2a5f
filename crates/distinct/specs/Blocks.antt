-- The names of a field in blocks: names that are not among those of a block repeat as they do without it.
use Rattle.std.specs.Prelude.{ℕ, suc, ◌+◌, ◌<◌, ◌≤◌, Bool, true, false, cond, ◌||◌, List, [], ◌∷◌, ◌++◌, reverse, ◌≡◌, refl, eqb, leb, length, drop}
use Rattle.std.proofs.Math.Bool.{or-false}
use Rattle.std.proofs.Common.{sym, ap, ap₂, ◌∙◌, eqb-true, le-leb, length-drop, drop-drop, arith}
use Rattle.std.proofs.lemmas.Bool.{eqb-false, lt-leb}
use Rattle.std.proofs.Math.Decide.{dec_le, dec_lt, ℕ_discrete}
use Rattle.text.specs.Pieces.{onto, split, among, repeated}
use Rattle.text.specs.Repeats.{among_more}
use Rattle.distinct.specs.Names.{symbol, before, names, joined, joined-onto, joined-split, before_comma, before_byte, symbol-past, left_symbol, left_next, from_place, repeated-names}
use Rattle.distinct.specs.Plain.{Ends, plain_other}
use Rattle.distinct.specs.Tree.{Tree}

-- whether a name stands twice from a place on: past the end there is none
unfoldable pub repeated_from : List ℕ → ℕ → Bool
repeated_from field at = cond (leb at (length field)) (repeated (split 44 (drop at field))) false

-- no name that ends from a place on, up to another, is among some names
pub record Apart (field : List ℕ) (some : List (List ℕ)) (from to : ℕ) : Type 0 where
  pub other : (end : ℕ) → from ≤ end → end < to → symbol field end ≡ 44 → among (reverse (before field end)) some ≡ false

-- no name ends between a place and itself
pub apart_start : (field : List ℕ) (some : List (List ℕ)) (from : ℕ) → Apart field some from from
apart_start field some from = record { other = λ end low high. absurd (omega arith) }

-- one name more
pub apart_next : {field : List ℕ} {some : List (List ℕ)} {from at end : ℕ} → Apart field some from at → Ends field at end
    → among (reverse (before field end)) some ≡ false → Apart field some from (suc end)
apart_next {field} {some} {from} {at} {end} apart name new = record { other = λ last low high comma. go last low high comma (dec_lt last at) (ℕ_discrete last end) }
  where
    go : (last : ℕ) → from ≤ last → last < suc end → symbol field last ≡ 44 → Dec (last < at) → Dec (last ≡ end) → among (reverse (before field last)) some ≡ false
    go last low high comma (yes old) d = apart.other last low old comma
    go last low high comma (no h) (yes same) = rw same new
    go last low high comma (no h) (no less) = absurd (plain_other name.plain last (omega arith) (omega arith) comma)

-- the pieces still to come repeat as they do without some names that do not repeat and are apart from them
apart_left : (field rest : List ℕ) (at : ℕ) (some : List (List ℕ)) → drop at field ≡ rest → at + length rest ≡ length field → repeated some ≡ false
    → Apart field some at (suc (length field)) → repeated (joined (before field at) (split 44 rest) ++ some) ≡ repeated (joined (before field at) (split 44 rest))
unfolding joined split among repeated
apart_left field [] at some here ends single apart =
    rw (apart.other at (omega arith) (omega arith) (symbol-past field at (omega arith)), single)
apart_left field (byte ∷ rest) at some here ends single apart =
    go (eqb byte 44) refl (apart_left field rest (suc at) some (left_next field at here) (omega arith) single (record { other = λ end low high. apart.other end (omega arith) high }))
  where
    go : (t : Bool) → eqb byte 44 ≡ t
        → repeated (joined (before field (suc at)) (split 44 rest) ++ some) ≡ repeated (joined (before field (suc at)) (split 44 rest))
        → repeated (joined (before field at) (cond t ([] ∷ split 44 rest) (onto byte (split 44 rest))) ++ some) ≡ repeated (joined (before field at) (cond t ([] ∷ split 44 rest) (onto byte (split 44 rest))))
    go true e below =
        let comma : symbol field at ≡ 44 = left_symbol field at here ∙ eqb-true byte 44 e in
        let last = reverse (before field at) in
        let new = apart.other at (omega arith) (omega arith) comma in
        ap₂ ◌||◌ (among_more last (split 44 rest) some ∙ ap (λ (b : Bool). among last (split 44 rest) || b) new ∙ or-false (among last (split 44 rest)))
        (rw (before_comma field at comma, joined-split rest) at below)
    go false e below =
        let other : symbol field at ≡ 44 → ⊥ = λ c. eqb-false byte 44 e (sym (left_symbol field at here) ∙ c) in
        rw (joined-onto (before field at) byte (split 44 rest))
        (rw (before_byte field at other, left_symbol field at here) at below)

-- the names of a tree, apart from all that come later, do not matter
pub tree_apart : {field links : List ℕ} {heads limit at : ℕ} → Tree field links heads limit → Apart field (names field limit) limit at → limit ≤ suc (length field) → length field < at
    → repeated (split 44 field) ≡ repeated_from field limit
unfolding repeated_from
tree_apart {field} {links} {heads} {limit} {at} tree apart order past = repeated-names field ∙ go (dec_le limit (length field))
  where
    go : Dec (limit ≤ length field) → repeated (names field (suc (length field))) ≡ cond (leb limit (length field)) (repeated (split 44 (drop limit field))) false
    go (yes inside) =
        let ends : limit + length (drop limit field) ≡ length field = omega (arith, length-drop limit field) in
        rw (le-leb limit (length field) inside)
        (sym (from_place field (drop limit field) limit refl ends)
        ∙ apart_left field (drop limit field) limit (names field limit) refl ends tree.single (record { other = λ end low high. apart.other end low (omega arith) })
        ∙ (rw tree.begins (ap repeated (joined-split (drop limit field)))))
    go (no end) =
        let last : suc (length field) ≡ limit = omega arith in
        rw (lt-leb limit (length field) (omega arith), last) tree.single

-- from a place on, then from a place of what is left on
pub from_left : (field : List ℕ) (base at : ℕ) → base ≤ length field → repeated_from (drop base field) at ≡ repeated_from field (base + at)
unfolding repeated_from
from_left field base at inside = rw (drop-drop at base field) (go (dec_le at (length (drop base field))))
  where
    go : Dec (at ≤ length (drop base field))
        → cond (leb at (length (drop base field))) (repeated (split 44 (drop (base + at) field))) false ≡ cond (leb (base + at) (length field)) (repeated (split 44 (drop (base + at) field))) false
    go (yes less) = rw (le-leb at (length (drop base field)) less, le-leb (base + at) (length field) (omega (arith, length-drop base field)))
    go (no more) = rw (lt-leb at (length (drop base field)) (omega arith), lt-leb (base + at) (length field) (omega (arith, length-drop base field)))

-- from a place inside on, and past the end
pub from_inside : (field : List ℕ) (at : ℕ) → at ≤ length field → repeated_from field at ≡ repeated (split 44 (drop at field))
unfolding repeated_from
from_inside field at inside = rw (le-leb at (length field) inside)

pub from_past : (field : List ℕ) (at : ℕ) → length field < at → repeated_from field at ≡ false
unfolding repeated_from
from_past field at past = rw (lt-leb at (length field) past)
