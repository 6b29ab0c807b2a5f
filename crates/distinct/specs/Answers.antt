-- What the functions answer: a name's end and head, a search in the tree, and the names of a block.
use Rattle.std.specs.Prelude.{ℕ, suc, ◌<◌, ◌≤◌, Bool, true, false, List, ◌≡◌, length, Option, Some, None}
use Rattle.text.specs.Pieces.{split, repeated}
use Rattle.distinct.specs.declared.Name.{Name}
use Rattle.distinct.specs.declared.Gap.{Gap}
use Rattle.distinct.specs.Names.{before}
use Rattle.distinct.specs.Plain.{Ends}
use Rattle.distinct.specs.Heads.{head_of}
use Rattle.distinct.specs.Tree.{Tree}
use Rattle.distinct.specs.Walk.{Missing}
use Rattle.distinct.specs.Blocks.{repeated_from}

-- there are heads, and the links begin with them
pub record Laid (links : List ℕ) (heads : ℕ) : Type 0 where
  pub some : 0 < heads
  pub few : heads ≤ 4096
  pub within : heads ≤ length links

-- where the name that begins at a place ends, and the head under which it stands
pub record Named (field : List ℕ) (heads from : ℕ) (name : Name) : Type 0 where
  pub ends : Ends field from name.end
  pub inside : name.end ≤ length field
  pub head : name.head ≡ head_of field heads (before field name.end)

-- what looking a name up says: it stands twice, or it is missing
abbrev pub Searched : (field links : List ℕ) (heads head from : ℕ) → Option Gap → Type 0
Searched field links heads head from None = repeated (split 44 field) ≡ true
Searched field links heads head from (Some gap) = Missing field links heads head from gap.slot gap.at

-- the names up to a place are in the tree
pub record Grown (field links : List ℕ) (heads limit : ℕ) : Type 0 where
  pub some : 0 < limit
  pub within : limit ≤ suc (length field)
  pub tree : Tree field links heads limit

-- a name stands twice, or the names up to a place are in the tree
abbrev pub Filled : (field links : List ℕ) (heads : ℕ) → Option ℕ → Type 0
Filled field links heads None = repeated (split 44 field) ≡ true
Filled field links heads (Some limit) = Grown field links heads limit

-- whether a name from a place on is one of those before it; if not, those do not matter
pub record Met (field : List ℕ) (limit : ℕ) (met : Bool) : Type 0 where
  pub twice : met ≡ true → repeated (split 44 field) ≡ true
  pub once : met ≡ false → repeated (split 44 field) ≡ repeated_from field limit

-- the names before a place do not matter
pub record Left (field : List ℕ) (limit : ℕ) : Type 0 where
  pub some : 0 < limit
  pub within : limit ≤ suc (length field)
  pub once : repeated (split 44 field) ≡ repeated_from field limit

-- a name stands twice, or the names before a place do not matter
abbrev pub Parted : (field : List ℕ) → Option ℕ → Type 0
Parted field None = repeated (split 44 field) ≡ true
Parted field (Some limit) = Left field limit
