-- A text that grows by a piece at each step: its length after a step, its length at most, and that a part is no longer than the whole.
use Rattle.std.specs.Prelude.{ℕ, zero, suc, ◌+◌, ◌-◌, ◌*◌, ◌≤◌, ◌<◌, List, ◌++◌, ◌≡◌, refl, length}
use Rattle.std.proofs.Common.{sym, ap, length-append, zero-add, mul-suc, add-one, arith}

-- The text after each number of steps, and the piece that the next step adds.
pub record Grows (text piece : ℕ → List ℕ) : Type 0 where
  pub next : (k : ℕ) → text k ++ piece k ≡ text (k + 1)

module _ {text piece : ℕ → List ℕ} (grows : Grows text piece) where
  -- one piece more is counted
  pub counted : (k : ℕ) {at more : ℕ} → at ≡ length (text k) → more ≡ length (piece k) → at + more ≡ length (text (k + 1))
  counted k place piece-length = omega (arith, ap length (grows.next k), length-append (text k) (piece k))

  -- and so at the next number
  one_more : (k : ℕ) → length (text (suc k)) ≡ length (text k) + length (piece k)
  one_more k = rw (add-one k) at (sym (counted k refl refl))

  -- each step keeps what there is
  longer : (more k : ℕ) → length (text k) ≤ length (text (more + k))
  longer zero k = rw (zero-add k) (omega arith)
  longer (suc more) k =
      let on : suc more + k ≡ suc (more + k) = omega arith in
      rw on (omega (arith, one_more (more + k), longer more k))

  -- so a part is no longer than the whole
  pub part_within : (k n : ℕ) → k ≤ n → length (text k) ≤ length (text n)
  part_within k n h =
      let whole : n - k + k ≡ n = omega arith in
      rw whole at (longer (n - k) k)

  -- where the whole has room, so has the next piece
  pub piece_room : (k n : ℕ) {at size : ℕ} → k < n → length (text n) ≤ size → at ≡ length (text k) → at + length (piece k) ≤ size
  piece_room k n below fits place = omega (arith, counted k place refl, part_within (k + 1) n (omega arith))

  -- pieces that are short make a text that is
  pub at_most : (most : ℕ) → ((k : ℕ) → length (piece k) ≤ most) → (k : ℕ) → length (text k) ≤ length (text 0) + most * k
  at_most most each zero = omega arith
  at_most most each (suc k) = omega (arith, one_more k, each k, at_most most each k, mul-suc most k)
