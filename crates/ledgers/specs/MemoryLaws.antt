-- Working memory that is too little, or enough.
use Rattle.std.specs.Prelude.{ℕ, ◌≤◌, ◌<◌, Bool, true, false, cond, List, ◌++◌, ◌≡◌, refl, ltb, length, drop}
use Rattle.std.proofs.Common.{lt-ltb, le-ltb, drop_at, arith}
use Rattle.ledgers.specs.Memory.{in_memory, Spared}

module _ {A : Type 0} (needed words : ℕ) (tooFew answer : A) where
  pub memory_short : words < needed → in_memory needed words tooFew answer ≡ tooFew
  unfolding in_memory
  memory_short short = rw (lt-ltb words needed short)

  pub memory_enough : needed ≤ words → in_memory needed words tooFew answer ≡ answer
  unfolding in_memory
  memory_enough enough = rw (le-ltb words needed enough)

-- a part of what is answered
pub memory_map : {A B : Type 0} (needed words : ℕ) (part : A → B) (tooFew answer : A) → part (in_memory needed words tooFew answer) ≡ in_memory needed words (part tooFew) (part answer)
unfolding in_memory
memory_map {A} {B} needed words part tooFew answer = go (ltb words needed)
  where
    go : (b : Bool) → part (cond b tooFew answer) ≡ cond b (part tooFew) (part answer)
    go true = refl
    go false = refl

-- nothing is touched
pub spared_all : {needed : ℕ} {words : List ℕ} → Spared needed words words
spared_all = record { few = λ short. refl; past = refl }

-- enough words, of which a part at the start was lent
pub spared_past : (needed : ℕ) (before part : List ℕ) → needed ≤ length before → length part ≡ needed → Spared needed before (part ++ drop needed before)
spared_past needed before part enough long = record { few = λ short. absurd (omega arith); past = drop_at part (drop needed before) needed long }
