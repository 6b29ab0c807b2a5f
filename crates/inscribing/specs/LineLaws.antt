-- Laws of a line: its text in the pieces in which it is written, over the names that a ledger has.
use Rattle.std.specs.Prelude.{ℕ, ◌+◌, ◌≤◌, Bool, true, false, List, [], ◌∷◌, ◌++◌, ◌≡◌, refl, length}
use Rattle.std.proofs.Common.{append-nil, sym, ap, length-append, arith}
use Rattle.roles.specs.declared.RoleSet.{RoleSet}
use Rattle.model.specs.declared.Assign.{Assign}
use Rattle.model.specs.declared.Revoke.{Revoke}
use Rattle.text.specs.Forms.{bytes}
use Rattle.tables.specs.declared.Name.{Name}
use Rattle.tables.specs.Names.{name_at, rows}
use Rattle.ledgers.specs.LedgerLaws.{roles-rows, users_lent}
use Rattle.lines.specs.declared.Entry.{Entry}
use Rattle.writing.specs.Written.{spelled}
use Rattle.writing.proofs.Buffers.{from}
use Rattle.showing.specs.Fields.{field}
use Rattle.spelling.specs.TypingText.{set_text, label_text}
use Rattle.lines.specs.declared.Counts.{Counts}
use Rattle.reading.specs.Ledger.{ledger_says}
use Rattle.inscribing.specs.LineText.{line_text, lines_text}

-- The line of an entry without its LF, and the lines of entries, over the names of a ledger.
unfoldable pub line_in : List ℕ → Counts → Entry → List ℕ
line_in words c entry = line_text (ledger_says words c).roles (ledger_says words c).users entry

unfoldable pub lines_in : List ℕ → Counts → List Entry → List ℕ
lines_in words c entries = lines_text (ledger_says words c).roles (ledger_says words c).users entries

-- a clearance and its tab
pub label_length : (label : Bool) → length (field (label_text label)) ≡ 2
unfolding field label_text
label_length true = refl
label_length false = refl

-- an assign rule's line, by the names that are found
module _ (names : List Name) (rule : Assign) {admin target : Name} (administers : admin ≡ name_at names rule.admin) (gives : target ≡ name_at names rule.target) where
  pub assign_text : bytes "assign" ++ field (spelled admin) ++ field (set_text names rule.positive) ++ field (set_text names rule.negative) ++ field (spelled target) ≡ line_text names [] (Entry.Assign rule)
  unfolding line_text
  assign_text = rw (administers, gives)

  -- where the line has room, so have its pieces
  pub assign_room : (at : ℕ) {size : ℕ} → at + length (line_text names [] (Entry.Assign rule)) ≤ size
      → at + length (bytes "assign" ++ field (spelled admin)) + length (field (set_text names rule.positive)) + length (field (set_text names rule.negative)) + length (field (spelled target)) ≤ size
  assign_room at fits =
      let one = bytes "assign" ++ field (spelled admin) in
      let two = field (set_text names rule.positive) in
      let three = field (set_text names rule.negative) in
      omega (arith, ap length assign_text, length-append (one ++ two ++ three) (field (spelled target)), length-append (one ++ two) three, length-append one two)

-- the line of each kind of entry, by the names that are found in the ledger
module _ (words : List ℕ) (c : Counts) {entry : Entry} where
  pub header_in : entry ≡ Entry.Header → bytes "arbac\t1" ≡ line_in words c entry
  unfolding line_in line_text field
  header_in is = rw is

  pub role_in : {name : Name} → entry ≡ Entry.Role name → bytes "role" ++ field (spelled name) ≡ line_in words c entry
  unfolding line_in line_text
  role_in is = rw is

  pub user_in : {name : Name} {clearance : Bool} → entry ≡ Entry.User name clearance → line_text [] [] (Entry.User name clearance) ≡ line_in words c entry
  unfolding line_in line_text
  user_in is = rw is

  pub has_in : {user role : ℕ} {holder held : Name} → entry ≡ Entry.Has user role → holder ≡ name_at (rows c.users (from 512 words)) user → held ≡ name_at (rows c.roles words) role
      → bytes "has" ++ field (spelled holder) ++ field (spelled held) ≡ line_in words c entry
  unfolding line_in line_text ledger_says
  has_in is named holds = rw (is, named, holds, users_lent words c.users, roles-rows words c.roles)

  pub assign_in : {rule : Assign} → entry ≡ Entry.Assign rule → line_text (rows c.roles words) [] (Entry.Assign rule) ≡ line_in words c entry
  unfolding line_in line_text ledger_says
  assign_in is = rw (is, roles-rows words c.roles)

  pub revoke_in : {rule : Revoke} {admin target : Name} → entry ≡ Entry.Revoke rule → admin ≡ name_at (rows c.roles words) rule.admin → target ≡ name_at (rows c.roles words) rule.target
      → bytes "revoke" ++ field (spelled admin) ++ field (spelled target) ≡ line_in words c entry
  unfolding line_in line_text ledger_says
  revoke_in is administers takes = rw (is, administers, takes, roles-rows words c.roles)

  pub goal_in : {goal : RoleSet} → entry ≡ Entry.Goal goal → line_text (rows c.roles words) [] (Entry.Goal goal) ≡ line_in words c entry
  unfolding line_in line_text ledger_says
  goal_in is = rw (is, roles-rows words c.roles)

  pub end_in : entry ≡ Entry.End → bytes "end" ≡ line_in words c entry
  unfolding line_in line_text
  end_in is = rw is

-- no line, and a line with its LF
pub lines_none : (words : List ℕ) (c : Counts) → [] ≡ lines_in words c []
unfolding lines_in lines_text
lines_none words c = refl

pub line_in_lem : (words : List ℕ) (c : Counts) (entry : Entry) → line_in words c entry ++ bytes "\n" ≡ lines_in words c (entry ∷ [])
unfolding line_in lines_in lines_text
line_in_lem words c entry = sym (append-nil (line_in words c entry ++ bytes "\n"))
