-- What the lent buffer holds afterwards: success puts the text at its start, past which its bytes are as they were, and every other answer leaves it as it was.
use Rattle.std.specs.Prelude.{ℕ, List, ◌≡◌, take, drop}

-- A text of so many bytes stands at the start of the buffer, and past it the buffer is as it was before.
pub record Filled (text : List ℕ) (written : ℕ) (before after : List ℕ) : Type 0 where
  pub start : take written after ≡ text
  pub past : drop written after ≡ drop written before
