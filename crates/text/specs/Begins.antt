-- A byte string begins with another, as a text with its header.
use Rattle.std.specs.Prelude.{ℕ, ◌<◌, Bool, true, false, ◌&&◌, List, [], ◌∷◌, ◌++◌, ◌≡◌, refl, eqb, length, take, drop}
use Rattle.std.proofs.Common.{sym, ap, ap₂, ◌∙◌, eq-eqb, length-take, take-append-drop, arith}
use lib.Pointwise.{pointwise, bytes_decides}
use Rattle.text.specs.Pieces.{same_bytes}
use Rattle.text.specs.PieceLaws.{same_answer, same_equal}

-- The byte string begins with these bytes.
unfoldable pub begins : (start s : List ℕ) → Bool
begins start s = same_bytes (take (length start) s) start

-- it does where they are the first bytes, one by one
pub begins_pointwise : (start s : List ℕ) → pointwise eqb start (take (length start) s) ≡ begins start s
unfolding begins
begins_pointwise start s =
    let both = bytes_decides start (take (length start) s) in
    same_answer (take (length start) s) start (pointwise eqb start (take (length start) s)) (λ e. sym (both.0 e)) (λ e. both.1 (sym e))

-- a shorter one does not
pub begins_short : (start s : List ℕ) → length s < length start → false ≡ begins start s
unfolding begins
begins_short start s short = go (begins start s) refl
  where
    go : (b : Bool) → begins start s ≡ b → false ≡ begins start s
    go false is = sym is
    go true is = absurd (omega (arith, ap length (same_equal (take (length start) s) start is), length-take (length start) s))

-- one that goes on from them does,
pub begins-onward : (start rest : List ℕ) → begins start (start ++ rest) ≡ true
unfolding begins same_bytes
begins-onward [] rest = refl
begins-onward (byte ∷ start) rest = ap₂ ◌&&◌ (eq-eqb byte byte refl) (begins-onward start rest)

-- and only such a one
pub begins-whole : (start s : List ℕ) → begins start s ≡ true → s ≡ start ++ drop (length start) s
unfolding begins
begins-whole start s is = sym (take-append-drop (length start) s) ∙ ap (λ (l : List ℕ). l ++ drop (length start) s) (same_equal (take (length start) s) start is)
