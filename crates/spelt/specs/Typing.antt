-- A typing text by its bytes (document 01, "The texts").
use Rattle.std.specs.Prelude.{ℕ, suc, ◌≤◌, Bool, List, [], ◌∷◌, ◌++◌, ◌≡◌, length}
use Rattle.roles.specs.declared.RoleSet.{RoleSet}
use Rattle.text.specs.Forms.{bytes}
use Rattle.text.specs.Pieces.{parted}
use Rattle.spelling.specs.TypingText.{label_text}
use Rattle.typings.specs.TypingText.{Typed}
use Rattle.spelt.specs.Lines.{ended}
use Rattle.spelt.specs.Sets.{SetSpelt}

-- A role's line: its name, its label, its plus set and its minus set, parted by tabs.
pub record Row (names : List (List ℕ)) (name : List ℕ) (label : Bool) (plus minus : RoleSet) (line : List ℕ) : Type 0 where
  pub plus_field : List ℕ
  pub minus_field : List ℕ
  pub fields : line ≡ parted 9 (name ∷ label_text label ∷ plus_field ∷ minus_field ∷ [])
  pub plus_spelt : SetSpelt names plus_field plus
  pub minus_spelt : SetSpelt names minus_field minus

-- A line for each name, in their order, and the labels and sets that the lines say.
pub data Rows (names : List (List ℕ)) : List (List ℕ) → List Bool → List RoleSet → List RoleSet → (lines : List (List ℕ)) → Type 0 where
  none : Rows names [] [] [] [] []
  row : {name line : List ℕ} {label : Bool} {plus minus : RoleSet} {rest lines : List (List ℕ)} {labels : List Bool} {pluses minuses : List RoleSet}
      → Row names name label plus minus line → Rows names rest labels pluses minuses lines
      → Rows names (name ∷ rest) (label ∷ labels) (plus ∷ pluses) (minus ∷ minuses) (line ∷ lines)

-- The text, over the policy's role names: at most 32,768 bytes; the header, a line for each role in the policy's order, `end`.
-- The lines above `end` are counted.
pub record TypingSpelt (names : List (List ℕ)) (text : List ℕ) (t : Typed) : Type 0 where
  pub short : length text ≤ 32768
  pub rows : List (List ℕ)
  pub lines : text ≡ ended (bytes "typing\t1" ∷ (rows ++ (bytes "end" ∷ [])))
  pub says : Rows names names t.labels t.plus t.minus rows
  pub counted : t.stage ≡ suc (length names)
