-- Working memory that a caller lends, of any content.
use Rattle.std.specs.Prelude.{ℕ, ◌<◌, cond, List, ◌≡◌, ltb, length, drop}

-- The number of the answer where too little is lent. No document has it.
abbrev pub no_memory : ℕ
no_memory = 254

-- What is answered in so many words: where they are too few, that they are; else the answer itself.
unfoldable pub in_memory : {A : Type 0} → (needed words : ℕ) → (tooFew answer : A) → A
in_memory needed words tooFew answer = cond (ltb words needed) tooFew answer

-- What becomes of the words: too few are as they were, and so are those past the ones that are needed.
pub record Spared (needed : ℕ) (before after : List ℕ) : Type 0 where
  pub few : length before < needed → after ≡ before
  pub past : drop needed after ≡ drop needed before
