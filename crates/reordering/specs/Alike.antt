-- Policy texts that differ only in the order of has lines and of names inside sets, and which policies can be read (document 01, "The
-- texts").
use Rattle.std.specs.Prelude.{ℕ, ◌≤◌, ◌<◌, ◌≡◌, length}
use mathlib.Core.List.{List, [], ◌∷◌, ◌++◌, Memᴰ as Listed}
use Rattle.roles.specs.declared.RoleSet.{RoleSet}
use Rattle.roles.specs.Sets.{empty_set}
use Rattle.text.specs.Forms.{bytes}
use Rattle.text.specs.Pieces.{split}
use Rattle.lines.specs.Lines.{goal_kind}
use Rattle.reading.specs.Policy.{Said}
use Rattle.reading.specs.SoundRules.{Sound}
use Rattle.drafting.specs.PolicyText.{policy_text}

-- ---- texts alike

-- An element put anywhere into a list.
pub data Inserted {A : Type 0} (x : A) : List A → List A → Type 0 where
  here : {xs : List A} → Inserted x xs (x ∷ xs)
  there : {y : A} {xs more : List A} → Inserted x xs more → Inserted x (y ∷ xs) (y ∷ more)

-- The same elements in some order: each is put anywhere among those that follow it.
pub data Reordered {A : Type 0} : List A → List A → Type 0 where
  none : Reordered [] []
  put : {x : A} {rest others all : List A} → Reordered rest others → Inserted x others all → Reordered (x ∷ rest) all

-- As many elements, each like the one at its place.
pub data Each {A : Type 0} (Like : A → A → Type 0) : List A → List A → Type 0 where
  none : Each Like [] []
  more : {x y : A} {xs ys : List A} → Like x y → Each Like xs ys → Each Like (x ∷ xs) (y ∷ ys)

-- Two fields: the same names, which commas part, in some order.
pub record FieldAlike (field other : List ℕ) : Type 0 where
  pub names : Reordered (split 44 field) (split 44 other)

-- Two lines: as many fields, which tabs part, each like the other's.
pub record LineAlike (line other : List ℕ) : Type 0 where
  pub fields : Each FieldAlike (split 9 line) (split 9 other)

-- A has line, by its first field.
pub record HasLine (line : List ℕ) : Type 0 where
  pub rest : List (List ℕ)
  pub first_field : split 9 line ≡ bytes "has" ∷ rest

-- Two texts: as many lines, which LFs part, each like the other's, but for the has lines, which stand together and are the same in
-- some order.
pub record TextAlike (text other : List ℕ) : Type 0 where
  pub before : List (List ℕ)
  pub held : List (List ℕ)
  pub after : List (List ℕ)
  pub before' : List (List ℕ)
  pub held' : List (List ℕ)
  pub after' : List (List ℕ)
  pub lines : split 10 text ≡ before ++ held ++ after
  pub lines' : split 10 other ≡ before' ++ held' ++ after'
  pub above : Each LineAlike before before'
  pub reordered : Reordered held held'
  pub all_has : (line : List ℕ) → Listed line held → HasLine line
  pub below : Each LineAlike after after'

-- ---- policies that can be read

-- Within the limits, every name well formed and standing once, every rule and goal over declared roles, at least one goal, and none
-- empty; and its text is not too long.
pub record Readable (s : Said) : Type 0 where
  pub sound : Sound s
  pub at_goals : s.stage ≡ goal_kind
  pub some_goal : 0 < length s.goals
  pub no_empty_goal : (goal : RoleSet) → Listed goal s.goals → goal ≡ empty_set → ⊥
  pub short : length (policy_text s) ≤ 32768
