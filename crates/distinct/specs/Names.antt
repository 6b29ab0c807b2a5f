-- The names of a field joined by commas, each told by the place where it ends; and whether one stands twice.
use Rattle.std.specs.Prelude.{ℕ, zero, suc, ◌+◌, ◌<◌, ◌≤◌, Bool, true, false, cond, ◌≡◌, refl, eqb, length, drop, get_or}
use Rattle.std.proofs.lemmas.Bool.{false≢true, eqb-false}
use Rattle.std.proofs.Math.Bool.{or-true}
use mathlib.Core.List.{List, [], ◌∷◌, ◌++◌, reverse, reverse_aux, append-nil}
use Rattle.std.proofs.Common.{sym, ap, ◌∙◌, eqb-true, eq-eqb, ne_eqb, get_or-drop, drop-drop, add-zero, add-one, arith}
use Rattle.std.proofs.Math.ListN.{get_or-eq_default}
use Rattle.std.proofs.Math.Decide.{dec_le, dec_lt, ℕ_discrete}
use Rattle.text.specs.Repeats.{repeated_moved}
use Rattle.text.specs.Pieces.{onto, split, same_bytes, among, repeated}
use Rattle.text.specs.PieceLaws.{same_equal, equal_same}

-- the byte at a place, and a comma past the last byte: each name ends at a comma
unfoldable pub symbol : List ℕ → ℕ → ℕ
symbol field at = get_or field at 44

-- the bytes of a name that stand before a place in it, the last one first
unfoldable pub before : List ℕ → ℕ → List ℕ
before field zero = []
before field (suc at) = cond (eqb (symbol field at) 44) [] (symbol field at ∷ before field at)

-- the names that end before a place, the last one first
unfoldable pub names : List ℕ → ℕ → List (List ℕ)
names field zero = []
names field (suc at) = cond (eqb (symbol field at) 44) (reverse (before field at) ∷ names field at) (names field at)

-- ---- one place further

pub before_comma : (field : List ℕ) (at : ℕ) → symbol field at ≡ 44 → before field (suc at) ≡ []
unfolding before
before_comma field at comma = rw (eq-eqb (symbol field at) 44 comma)

pub before_byte : (field : List ℕ) (at : ℕ) → (symbol field at ≡ 44 → ⊥) → before field (suc at) ≡ symbol field at ∷ before field at
unfolding before
before_byte field at byte = rw (ne_eqb (symbol field at) 44 byte)

-- where no byte of a name stands before a place, a comma does
pub comma_before : (field : List ℕ) (at : ℕ) → before field (suc at) ≡ [] → symbol field at ≡ 44
comma_before field at none = go (ℕ_discrete (symbol field at) 44)
  where
    go : Dec (symbol field at ≡ 44) → symbol field at ≡ 44
    go (yes comma) = comma
    go (no other) =
        let never : 0 ≡ suc (length (before field at)) = ap length (sym none ∙ before_byte field at other) in
        absurd (omega arith)

pub names_comma : (field : List ℕ) (at : ℕ) → symbol field at ≡ 44 → names field (suc at) ≡ reverse (before field at) ∷ names field at
unfolding names
names_comma field at comma = rw (eq-eqb (symbol field at) 44 comma)

pub names_byte : (field : List ℕ) (at : ℕ) → (symbol field at ≡ 44 → ⊥) → names field (suc at) ≡ names field at
unfolding names
names_byte field at byte = rw (ne_eqb (symbol field at) 44 byte)

-- ---- the pieces between commas are the names told by their ends

-- the bytes of a name that stand before a place, then the pieces from that place on
unfoldable pub joined : List ℕ → List (List ℕ) → List (List ℕ)
joined u [] = reverse u ∷ []
joined u (piece ∷ pieces) = reverse_aux u piece ∷ pieces

pub joined-onto : (u : List ℕ) (byte : ℕ) (pieces : List (List ℕ)) → joined u (onto byte pieces) ≡ joined (byte ∷ u) pieces
unfolding joined onto
joined-onto u byte [] = refl
joined-onto u byte (piece ∷ pieces) = refl

-- no bytes of a name: the pieces as they are
pub joined-split : (s : List ℕ) → joined [] (split 44 s) ≡ split 44 s
unfolding joined split onto
joined-split [] = refl
joined-split (byte ∷ rest) = go (eqb byte 44) (split 44 rest)
  where
    go : (t : Bool) (pieces : List (List ℕ)) → joined [] (cond t ([] ∷ pieces) (onto byte pieces)) ≡ cond t ([] ∷ pieces) (onto byte pieces)
    go true pieces = refl
    go false [] = refl
    go false (piece ∷ pieces) = refl

-- past the last byte stands a comma
pub symbol-past : (field : List ℕ) (at : ℕ) → length field ≤ at → symbol field at ≡ 44
unfolding symbol
symbol-past field at past = get_or-eq_default field 44 past

-- what is no comma stands inside
pub symbol_there : (field : List ℕ) (at : ℕ) → (symbol field at ≡ 44 → ⊥) → at < length field
symbol_there field at other = go (dec_lt at (length field))
  where
    go : Dec (at < length field) → at < length field
    go (yes inside) = inside
    go (no past) = absurd (other (symbol-past field at (omega arith)))

-- at a place inside stands the field's byte
pub symbol_inside : (field : List ℕ) (at : ℕ) → at < length field → get_or field at 0 ≡ symbol field at
unfolding symbol
symbol_inside [] at inside = absurd (omega arith)
symbol_inside (byte ∷ field) zero inside = refl
symbol_inside (byte ∷ field) (suc at) inside = symbol_inside field at (omega arith)

-- what is left from a place on begins with the byte there, and goes on with what is left from the next place on
pub left_symbol : {byte : ℕ} {rest : List ℕ} (field : List ℕ) (at : ℕ) → drop at field ≡ byte ∷ rest → symbol field at ≡ byte
unfolding symbol
left_symbol field at here = ap (λ (n : ℕ). get_or field n 44) (sym (add-zero at)) ∙ sym (get_or-drop at field 0 44) ∙ ap (λ (l : List ℕ). get_or l 0 44) here

pub left_next : {byte : ℕ} {rest : List ℕ} (field : List ℕ) (at : ℕ) → drop at field ≡ byte ∷ rest → drop (suc at) field ≡ rest
left_next field at here = ap (λ (n : ℕ). drop n field) (sym (add-one at)) ∙ sym (drop-drop 1 at field) ∙ ap (drop 1) here

-- the names that ended and the pieces still to come, at any place
pub from_place : (field rest : List ℕ) (at : ℕ) → drop at field ≡ rest → at + length rest ≡ length field
    → repeated (joined (before field at) (split 44 rest) ++ names field at) ≡ repeated (names field (suc (length field)))
unfolding joined split
from_place field [] at here ends =
    let last : at ≡ length field = omega arith in
    let comma : symbol field at ≡ 44 = symbol-past field at (omega arith) in
    rw (← last) (ap repeated (sym (names_comma field at comma)))
from_place field (byte ∷ rest) at here ends =
    go (eqb byte 44) refl (from_place field rest (suc at) (left_next field at here) (omega arith))
  where
    seen : symbol field at ≡ byte
    seen = left_symbol field at here

    go : (t : Bool) → eqb byte 44 ≡ t
        → repeated (joined (before field (suc at)) (split 44 rest) ++ names field (suc at)) ≡ repeated (names field (suc (length field)))
        → repeated (joined (before field at) (cond t ([] ∷ split 44 rest) (onto byte (split 44 rest))) ++ names field at) ≡ repeated (names field (suc (length field)))
    go true e below =
        let comma : symbol field at ≡ 44 = seen ∙ eqb-true byte 44 e in
        sym (repeated_moved (reverse (before field at)) (split 44 rest) (names field at))
        ∙ (rw (before_comma field at comma, names_comma field at comma, joined-split rest) at below)
    go false e below =
        let other : symbol field at ≡ 44 → ⊥ = λ c. eqb-false byte 44 e (sym seen ∙ c) in
        rw (joined-onto (before field at) byte (split 44 rest))
        (rw (before_byte field at other, names_byte field at other, seen) at below)

-- whether a piece stands twice is whether a name does, told by the ends
pub repeated-names : (field : List ℕ) → repeated (split 44 field) ≡ repeated (names field (suc (length field)))
unfolding before names
repeated-names field =
    sym (ap repeated (append-nil (joined [] (split 44 field)) ∙ joined-split field)) ∙ from_place field field 0 refl (omega arith)

-- ---- a name among the names told by their ends

-- a name that ended is among them
pub names_hold : (field : List ℕ) (end at : ℕ) → end < at → symbol field end ≡ 44 → among (reverse (before field end)) (names field at) ≡ true
unfolding names among
names_hold field end zero less comma = absurd (omega arith)
names_hold field end (suc at) less comma = go (eqb (symbol field at) 44) refl (ℕ_discrete end at) (λ h. names_hold field end at h comma)
  where
    u : List ℕ
    u = reverse (before field end)

    go : (t : Bool) → eqb (symbol field at) 44 ≡ t → Dec (end ≡ at) → (end < at → among u (names field at) ≡ true)
        → among u (cond t (reverse (before field at) ∷ names field at) (names field at)) ≡ true
    go true e (yes here) below = rw (← here, equal_same (reverse (before field end)))
    go true e (no other) below = rw (below (omega arith)) (or-true (same_bytes u (reverse (before field at))))
    go false e (yes here) below = absurd (eqb-false (symbol field at) 44 e (ap (symbol field) (sym here) ∙ comma))
    go false e (no other) below = below (omega arith)

-- a name ended before a place
pub record Ended (field s : List ℕ) (at : ℕ) : Type 0 where
  pub end : ℕ
  pub earlier : end < at
  pub comma : symbol field end ≡ 44
  pub name : reverse (before field end) ≡ s

-- a name among them ended
pub names-ended : (field s : List ℕ) (at : ℕ) → among s (names field at) ≡ true → Ended field s at
unfolding names among
names-ended field s zero found = absurd (false≢true found)
names-ended field s (suc at) found = go (eqb (symbol field at) 44) refl (same_bytes s (reverse (before field at))) refl found (names-ended field s at)
  where
    later : Ended field s at → Ended field s (suc at)
    later h = record { end = h.end; earlier = omega arith; comma = h.comma; name = h.name }

    go : (t : Bool) → eqb (symbol field at) 44 ≡ t → (b : Bool) → same_bytes s (reverse (before field at)) ≡ b
        → among s (cond t (reverse (before field at) ∷ names field at) (names field at)) ≡ true
        → (among s (names field at) ≡ true → Ended field s at) → Ended field s (suc at)
    go true e true f found below =
        record { end = at; earlier = omega arith; comma = eqb-true (symbol field at) 44 e; name = sym (same_equal s (reverse (before field at)) f) }
    go true e false f found below = later (below (rw f at found))
    go false e b f found below = later (below found)

-- names that repeat go on repeating
pub names_repeat : (field : List ℕ) (at to : ℕ) → at ≤ to → repeated (names field at) ≡ true → repeated (names field to) ≡ true
unfolding names repeated
names_repeat field at zero less twice =
    let start : at ≡ 0 = omega arith in
    rw start at twice
names_repeat field at (suc to) less twice = go (dec_le at to) (λ h. names_repeat field at to h twice)
  where
    more : (t : Bool) → repeated (names field to) ≡ true → repeated (cond t (reverse (before field to) ∷ names field to) (names field to)) ≡ true
    more true below = rw below (or-true (among (reverse (before field to)) (names field to)))
    more false below = below

    go : Dec (at ≤ to) → (at ≤ to → repeated (names field to) ≡ true) → repeated (names field (suc to)) ≡ true
    go (yes h) below = more (eqb (symbol field to) 44) (below h)
    go (no h) below =
        let same : at ≡ suc to = omega arith in
        rw same at twice
