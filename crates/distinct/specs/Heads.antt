-- The head of the tree under which a name stands: a number mixed from its bytes.
use Rattle.std.specs.Prelude.{ℕ, ◌+◌, ◌*◌, ◌/◌, ◌%◌, ◌<◌, List, [], ◌∷◌, ◌≡◌, length}
use Rattle.std.proofs.Common.{◌∙◌, lit<, div-lt_iff_lt-mul, mod-lt, mul_comm, mul-lt-mul_of_pos_right, add-one, arith}
use Rattle.distinct.specs.Names.{symbol, before, before_byte}

-- a number mixed from bytes, the last one first
unfoldable pub mixed : ℕ → List ℕ → ℕ
mixed factor [] = 0
mixed factor (byte ∷ bytes) = (mixed factor bytes + byte) * factor % 65536

-- the head of a name; the factor is another in what is left after a block, so that names that stand under one head there stand apart here
unfoldable pub head_of : List ℕ → ℕ → List ℕ → ℕ
head_of field heads bytes = mixed (40503 + 2 * length field) bytes * heads / 65536

-- one byte more
pub mixed-next : {sum byte : ℕ} (factor : ℕ) (field : List ℕ) (at : ℕ) → sum ≡ mixed factor (before field at) → byte ≡ symbol field at → (byte ≡ 44 → ⊥)
    → (sum + byte) * factor % 65536 ≡ mixed factor (before field (at + 1))
unfolding mixed
mixed-next factor field at is here other = rw (is, here, add-one at, before_byte field at (λ comma. other (here ∙ comma)))

-- the number is below 65536
pub mixed_small : (factor : ℕ) (bytes : List ℕ) → mixed factor bytes < 65536
unfolding mixed
mixed_small factor [] = omega arith
mixed_small factor (byte ∷ bytes) = mod-lt _ (lit< tt)

-- so there is a head for every name
pub head_below : (field : List ℕ) (heads : ℕ) (bytes : List ℕ) → 0 < heads → head_of field heads bytes < heads
unfolding head_of
head_below field heads bytes some =
    (div-lt_iff_lt-mul (lit< tt)).1 (rw (mul_comm heads 65536) (mul-lt-mul_of_pos_right (mixed_small (40503 + 2 * length field) bytes) some))
