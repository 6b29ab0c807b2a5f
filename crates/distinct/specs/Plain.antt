-- The places of one name: no comma stands from one place up to another.
use Rattle.std.specs.Prelude.{ℕ, suc, ◌<◌, ◌≤◌, List, ◌≡◌, refl}
use Rattle.std.proofs.Common.{sym, ap, ◌∙◌, arith}
use Rattle.std.proofs.Math.Decide.{dec_le, ℕ_discrete}
use Rattle.distinct.specs.Names.{symbol, names, names_byte}

-- no comma stands from one place up to another
pub data Plain (field : List ℕ) (from : ℕ) : ℕ → Type 0 where
  none : Plain field from from
  more : {at : ℕ} → Plain field from at → (symbol field at ≡ 44 → ⊥) → Plain field from (suc at)

-- a name from its first place to the comma after it
pub record Ends (field : List ℕ) (from end : ℕ) : Type 0 where
  pub plain : Plain field from end
  pub comma : symbol field end ≡ 44

-- the one is not past the other
pub plain_ordered : {field : List ℕ} {from to : ℕ} → Plain field from to → from ≤ to
plain_ordered none = omega arith
plain_ordered (more plain other) = omega (arith, plain_ordered plain)

-- a place between holds no comma
pub plain_other : {field : List ℕ} {from to : ℕ} → Plain field from to → (at : ℕ) → from ≤ at → at < to → symbol field at ≡ 44 → ⊥
plain_other none at low high comma = omega arith
plain_other {field} (more {at = last} plain other) at low high comma = go (ℕ_discrete at last) (λ less. plain_other plain at low less comma)
  where
    go : Dec (at ≡ last) → (at < last → ⊥) → ⊥
    go (yes same) sooner = other (ap (symbol field) (sym same) ∙ comma)
    go (no less) sooner = sooner (omega arith)

-- from any place between on it is so too
plain_part : {field : List ℕ} {from to : ℕ} → Plain field from to → (at : ℕ) → from ≤ at → at ≤ to → Plain field at to
plain_part {from = from} none at low high =
    let same : at ≡ from = omega arith in
    rw same none
plain_part {field} (more {at = last} plain other) at low high = go (ℕ_discrete at (suc last)) (λ less. plain_part plain at low less)
  where
    go : Dec (at ≡ suc last) → (at ≤ last → Plain field at last) → Plain field at (suc last)
    go (yes same) sooner = rw same none
    go (no less) sooner = more (sooner (omega arith)) other

-- a place that no comma parts from a name's beginning is in the name
pub plain_rest : {field : List ℕ} {from at end : ℕ} → Plain field from at → Ends field from end → Plain field at end
plain_rest {field} {at = at} {end = end} start name = go (dec_le at end)
  where
    go : Dec (at ≤ end) → Plain field at end
    go (yes less) = plain_part name.plain at (plain_ordered start) less
    go (no less) = absurd (plain_other start end (plain_ordered name.plain) (omega arith) name.comma)

-- no name ends between
pub plain_names : {field : List ℕ} {from to : ℕ} → Plain field from to → names field to ≡ names field from
plain_names none = refl
plain_names {field} (more {at = last} plain other) = names_byte field last other ∙ plain_names plain
