-- The sum of two typings laid out in arrays, role by role.
use Rattle.std.specs.Prelude.{◌||◌, List, [], ◌∷◌}
use Rattle.roles.specs.Sets.{union_of}
use Rattle.model.specs.declared.Typing.{Typing as Table}
use Rattle.typings.specs.TypingText.{Typed}

-- two lists, element by element, as far as both go
unfoldable pub paired {ℓ} : {A : Type ℓ} → (A → A → A) → List A → List A → List A
paired f [] ys = []
paired f (x ∷ xs) [] = []
paired f (x ∷ xs) (y ∷ ys) = f x y ∷ paired f xs ys

-- A label is H when either is H; plus and minus sets are unions.
unfoldable pub sum_of : Table → Table → Table
sum_of t u = record {
  labels = paired ◌||◌ t.labels u.labels;
  plus = paired union_of t.plus u.plus;
  minus = paired union_of t.minus u.minus;
}

-- The sum of two typings row by row; the lines are those of the first.
unfoldable pub sum_typed : Typed → Typed → Typed
sum_typed t u = record {
  stage = t.stage;
  labels = paired ◌||◌ t.labels u.labels;
  plus = paired union_of t.plus u.plus;
  minus = paired union_of t.minus u.minus;
}
