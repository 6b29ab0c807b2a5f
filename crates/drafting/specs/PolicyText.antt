-- A policy as a text: the lines of each kind in order, and the whole.
use Rattle.std.specs.Prelude.{ℕ, zero, suc, cond, List, [], ◌∷◌, ◌++◌, length, get_or}
use Rattle.roles.specs.declared.RoleSet.{RoleSet}
use Rattle.roles.specs.Sets.{empty_set, has_role}
use Rattle.model.specs.Policy.{no_assign, no_revoke, person}
use Rattle.tables.specs.declared.Name.{Name}
use Rattle.tables.specs.Names.{name_at}
use Rattle.lines.specs.declared.Entry.{Entry}
use Rattle.reading.specs.Policy.{Said}
use Rattle.inscribing.specs.LineText.{lines_text}
use Rattle.drafting.specs.declared.Block.{Block}

-- The has lines of a user, in role order, where the first name given is the role of the given number.
unfoldable pub held_from : (user role : ℕ) → RoleSet → List Name → List Entry
held_from user role held [] = []
held_from user role held (name ∷ names) = cond (has_role held role) (Entry.Has user role ∷ held_from user (suc role) held names) (held_from user (suc role) held names)

-- A block is the lines of one kind. It has an element for each role, user, rule or goal, in the order read: a line for each, and in the
-- block of has lines those of a user.
unfoldable pub block_size : Said → Block → ℕ
block_size s Block.Roles = length s.roles
block_size s Block.Users = length s.users
block_size s Block.Has = length s.users
block_size s Block.Assigns = length s.assigns
block_size s Block.Revokes = length s.revokes
block_size s Block.Goals = length s.goals

unfoldable pub element : Said → Block → ℕ → List Entry
element s Block.Roles place = Entry.Role (name_at s.roles place) ∷ []
element s Block.Users place = Entry.User (name_at s.users place) (person s.holdings place).clearance ∷ []
element s Block.Has place = held_from place 0 (person s.holdings place).roles s.roles
element s Block.Assigns place = Entry.Assign (get_or s.assigns place no_assign) ∷ []
element s Block.Revokes place = Entry.Revoke (get_or s.revokes place no_revoke) ∷ []
element s Block.Goals place = Entry.Goal (get_or s.goals place empty_set) ∷ []

-- the first elements of a block, and all of them
unfoldable pub first_of : Said → Block → ℕ → List Entry
first_of s block zero = []
first_of s block (suc count) = first_of s block count ++ element s block count

unfoldable pub block_of : Said → Block → List Entry
block_of s block = first_of s block (block_size s block)

-- The header, the blocks in document 01's order, `end`.
unfoldable pub entries_of : Said → List Entry
entries_of s =
    (Entry.Header ∷ []) ++ block_of s Block.Roles ++ block_of s Block.Users ++ block_of s Block.Has ++ block_of s Block.Assigns ++ block_of s Block.Revokes ++ block_of s Block.Goals ++ (Entry.End ∷ [])

-- The whole text.
unfoldable pub policy_text : Said → List ℕ
policy_text s = lines_text s.roles s.users (entries_of s)
