-- How long the lines of a block are, and the whole text.
use Rattle.std.specs.Prelude.{ℕ, zero, suc, ◌+◌, Bool, ◌≡◌, length}
use Rattle.std.proofs.Math.Bool.{true, false, cond}
use mathlib.Core.List.{List, [], ◌∷◌, ◌++◌}
use Rattle.std.proofs.Math.Path.{refl}
use Rattle.std.proofs.Common.{ap, zero-add}
use Rattle.std.proofs.Math.ListN.{length-append}
use native.Mathlib.Omega.{arith}
use Rattle.roles.specs.declared.RoleSet.{RoleSet}
use Rattle.roles.specs.Sets.{has_role}
use Rattle.text.specs.Forms.{bytes}
use Rattle.tables.specs.declared.Name.{Name}
use Rattle.lines.specs.declared.Entry.{Entry}
use Rattle.reading.specs.Policy.{Said}
use Rattle.showing.specs.Fields.{field}
use Rattle.drafting.specs.declared.Block.{Block}
use Rattle.inscribing.specs.LineText.{line_text, lines_text}
use Rattle.drafting.specs.PolicyText.{held_from, block_size, element, first_of, block_of, entries_of, policy_text}
use Rattle.measuring.specs.Sums.{sum_from, sum_last}

-- ---- lines one after another

-- a line with its LF
abbrev pub line_size : (roles users : List Name) → Entry → ℕ
line_size roles users entry = suc (length (line_text roles users entry))

abbrev pub lines_size : (roles users : List Name) → List Entry → ℕ
lines_size roles users entries = length (lines_text roles users entries)

module _ (roles users : List Name) where
  lines_next : (entry : Entry) (entries : List Entry) → lines_size roles users (entry ∷ entries) ≡ line_size roles users entry + lines_size roles users entries
  unfolding lines_text
  lines_next entry entries =
      omega (arith, length-append (line_text roles users entry ++ bytes "\n") (lines_text roles users entries), length-append (line_text roles users entry) (bytes "\n"))

  pub lines_one : (entry : Entry) → lines_size roles users (entry ∷ []) ≡ line_size roles users entry
  unfolding lines_text
  lines_one entry = omega (arith, lines_next entry [])

  pub lines_more : (some others : List Entry) → lines_size roles users (some ++ others) ≡ lines_size roles users some + lines_size roles users others
  unfolding lines_text
  lines_more [] others = omega arith
  lines_more (entry ∷ some) others = omega (arith, lines_next entry (some ++ others), lines_next entry some, lines_more some others)

  -- the has lines of a user
  pub held_size : (user role : ℕ) (held : RoleSet) (names : List Name) → lines_size roles users (held_from user role held names) ≡ sum_from role (length names) (λ (r : ℕ). cond (has_role held r) (line_size roles users (Entry.Has user r)) 0)
  unfolding held_from sum_from lines_text
  held_size user role held [] = refl
  held_size user role held (name ∷ names) = go (has_role held role) (held_size user (suc role) held names)
    where
      go : (b : Bool) → lines_size roles users (held_from user (suc role) held names) ≡ sum_from (suc role) (length names) (λ (r : ℕ). cond (has_role held r) (line_size roles users (Entry.Has user r)) 0)
          → lines_size roles users (cond b (Entry.Has user role ∷ held_from user (suc role) held names) (held_from user (suc role) held names))
          ≡ cond b (line_size roles users (Entry.Has user role)) 0 + sum_from (suc role) (length names) (λ (r : ℕ). cond (has_role held r) (line_size roles users (Entry.Has user r)) 0)
      go true below = omega (arith, below, lines_next (Entry.Has user role) (held_from user (suc role) held names))
      go false below = omega (arith, below)

-- the header and `end`
header_size : (roles users : List Name) → lines_size roles users (Entry.Header ∷ []) ≡ 8
unfolding lines_text line_text field
header_size roles users = refl

end_size : (roles users : List Name) → lines_size roles users (Entry.End ∷ []) ≡ 4
unfolding lines_text line_text
end_size roles users = refl

-- ---- blocks

-- an element's lines
abbrev pub element_size : Said → Block → ℕ → ℕ
element_size s block place = lines_size s.roles s.users (element s block place)

-- and those of all elements
abbrev pub block_length : Said → Block → ℕ
block_length s block = sum_from 0 (block_size s block) (element_size s block)

first_size : (s : Said) (block : Block) (count : ℕ) → lines_size s.roles s.users (first_of s block count) ≡ sum_from 0 count (element_size s block)
unfolding first_of lines_text sum_from
first_size s block zero = refl
first_size s block (suc count) =
    omega (
      arith,
      lines_more s.roles s.users (first_of s block count) (element s block count),
      first_size s block count,
      sum_last 0 count (element_size s block),
      ap (element_size s block) (zero-add count),
    )

block_size_lem : (s : Said) (block : Block) → lines_size s.roles s.users (block_of s block) ≡ block_length s block
unfolding block_of
block_size_lem s block = first_size s block (block_size s block)

-- all blocks
abbrev pub blocks_length : Said → ℕ
blocks_length s = block_length s Block.Roles + block_length s Block.Users + block_length s Block.Has + block_length s Block.Assigns + block_length s Block.Revokes + block_length s Block.Goals

-- The whole text: eight bytes of the header, the blocks, four of `end`.
pub text_size : (s : Said) → length (policy_text s) ≡ 8 + blocks_length s + 4
unfolding policy_text entries_of
text_size s =
    let more = lines_more s.roles s.users in
    let one = (Entry.Header ∷ []) ++ block_of s Block.Roles in
    let two = one ++ block_of s Block.Users in
    let three = two ++ block_of s Block.Has in
    let four = three ++ block_of s Block.Assigns in
    let five = four ++ block_of s Block.Revokes in
    omega (
      arith,
      more (five ++ block_of s Block.Goals) (Entry.End ∷ []),
      more five (block_of s Block.Goals),
      more four (block_of s Block.Revokes),
      more three (block_of s Block.Assigns),
      more two (block_of s Block.Has),
      more one (block_of s Block.Users),
      more (Entry.Header ∷ []) (block_of s Block.Roles),
      header_size s.roles s.users,
      end_size s.roles s.users,
      block_size_lem s Block.Roles,
      block_size_lem s Block.Users,
      block_size_lem s Block.Has,
      block_size_lem s Block.Assigns,
      block_size_lem s Block.Revokes,
      block_size_lem s Block.Goals,
    )
