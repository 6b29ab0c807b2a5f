-- One line of a policy: its kind, and when it is malformed, above a limit or names what is undeclared (document 01, "The texts").
use Rattle.std.specs.Prelude.{ℕ, Bool, true, false, cond, not, ◌&&◌, List, [], ◌∷◌, Result, Ok, Err, leb, ltb, eqb}
use Rattle.model.specs.Policy.{assigning}
use Rattle.tables.specs.declared.Name.{Name}
use Rattle.text.specs.Forms.{bytes, is_name, is_set, is_label}
use Rattle.tables.specs.Names.{packed}
use Rattle.text.specs.Pieces.{split, same_bytes}
use Rattle.walking.specs.declared.Fault.{Fault}
use Rattle.walking.specs.Turns.{Test, test}
use Rattle.lines.specs.declared.Counts.{Counts}
use Rattle.lines.specs.declared.Entry.{Entry}
use Rattle.fields.specs.Fields.{placed, is_declared, all_declared, roles_of}

-- A line by its first field and the number of its fields.
pub data Line : Type 0 where
  header : (edition : List ℕ) → Line
  role : (name : List ℕ) → Line
  user : (name clearance : List ℕ) → Line
  has : (holder held : List ℕ) → Line
  assign : (admin positive negative target : List ℕ) → Line
  revoke : (admin target : List ℕ) → Line
  goal : (roles : List ℕ) → Line
  end : Line
  other : Line

unfoldable pub one_field : List ℕ → Line
one_field word = cond (same_bytes word (bytes "end")) end other

unfoldable pub two_fields : (word field : List ℕ) → Line
two_fields word field =
    cond (same_bytes word (bytes "role")) (role field)
    (cond (same_bytes word (bytes "goal")) (goal field) (cond (same_bytes word (bytes "arbac")) (header field) other))

unfoldable pub three_fields : (word first second : List ℕ) → Line
three_fields word first second =
    cond (same_bytes word (bytes "has")) (has first second)
    (cond (same_bytes word (bytes "revoke")) (revoke first second) (cond (same_bytes word (bytes "user")) (user first second) other))

unfoldable pub five_fields : (word first second third fourth : List ℕ) → Line
five_fields word first second third fourth = cond (same_bytes word (bytes "assign")) (assign first second third fourth) other

unfoldable pub line_of : List (List ℕ) → Line
line_of [] = other
line_of (w ∷ []) = one_field w
line_of (w ∷ a ∷ []) = two_fields w a
line_of (w ∷ a ∷ b ∷ []) = three_fields w a b
line_of (w ∷ a ∷ b ∷ c ∷ []) = other
line_of (w ∷ a ∷ b ∷ c ∷ d ∷ []) = five_fields w a b c d
line_of (w ∷ a ∷ b ∷ c ∷ d ∷ e ∷ more) = other

-- The kinds of lines in the order in which they come, with room between them. 0 is the stage before the header.
abbrev pub header_kind : ℕ
header_kind = 10

abbrev pub role_kind : ℕ
role_kind = 20

abbrev pub user_kind : ℕ
user_kind = 30

abbrev pub has_kind : ℕ
has_kind = 40

abbrev pub assign_kind : ℕ
assign_kind = 50

abbrev pub revoke_kind : ℕ
revoke_kind = 60

abbrev pub goal_kind : ℕ
goal_kind = 70

abbrev pub end_kind : ℕ
end_kind = 80

-- The header comes first, then role, user, has, assign, revoke and goal lines in this order: a line of one kind may follow
-- the header and lines of its own kind and of those before it.
unfoldable pub in_order : (stage kind : ℕ) → Bool
in_order stage kind = leb header_kind stage && leb stage kind

-- What is asked of a line, and what it says.
pub record Asked : Type 0 where
  -- it has its form, stands in its order and repeats no role or user name
  pub formed : Bool
  -- at most 128 roles, 64 users, 256 assign lines, 256 revoke lines, 32 goals
  pub within : Bool
  -- every name that it uses is declared above
  pub known : Bool
  pub says : Entry

-- Each kind of line. `end` comes after a goal; `goal` with `-` is malformed.
unfoldable pub asked : Counts → (roles users : List Name) → Line → Asked
asked c roles users (header edition) = record { formed = eqb c.stage 0 && same_bytes edition (bytes "1"); within = true; known = true; says = Entry.Header }
asked c roles users (role name) = record {
  formed = in_order c.stage role_kind && is_name name && not (is_declared roles name);
  within = ltb c.roles 128;
  known = true;
  says = Entry.Role (packed name);
}
asked c roles users (user name clearance) = record {
  formed = in_order c.stage user_kind && is_name name && is_label clearance && not (is_declared users name);
  within = ltb c.users 64;
  known = true;
  says = Entry.User (packed name) (same_bytes clearance (bytes "H"));
}
asked c roles users (has holder held) = record {
  formed = in_order c.stage has_kind && (is_name holder && is_name held);
  within = true;
  known = is_declared users holder && is_declared roles held;
  says = Entry.Has (placed users holder) (placed roles held);
}
asked c roles users (assign admin positive negative target) = record {
  formed = in_order c.stage assign_kind && (is_name admin && is_set positive && (is_set negative && is_name target));
  within = ltb c.assigns 256;
  known = is_declared roles admin && all_declared roles positive && (all_declared roles negative && is_declared roles target);
  says = Entry.Assign (assigning (placed roles admin) (roles_of roles positive) (roles_of roles negative) (placed roles target));
}
asked c roles users (revoke admin target) = record {
  formed = in_order c.stage revoke_kind && (is_name admin && is_name target);
  within = ltb c.revokes 256;
  known = is_declared roles admin && is_declared roles target;
  says = Entry.Revoke (record { admin = placed roles admin; target = placed roles target });
}
asked c roles users (goal set) = record {
  formed = in_order c.stage goal_kind && not (same_bytes set (bytes "-")) && is_set set;
  within = ltb c.goals 32;
  known = all_declared roles set;
  says = Entry.Goal (roles_of roles set);
}
asked c roles users end = record { formed = eqb c.stage goal_kind; within = true; known = true; says = Entry.End }
asked c roles users other = record { formed = false; within = true; known = true; says = Entry.End }

-- Within a line, malformed, then limit, then names.
unfoldable pub tests : (formed within known : Bool) → List Test
tests formed within known = test 11 formed ∷ test 12 within ∷ test 13 known ∷ []

-- What a line comes to: the fault of the first of these tests that fails, and its entry where it passes all.
unfoldable pub comes_to : (formed within known : Bool) → Entry → Result Entry Fault
comes_to formed within known e = cond formed (cond within (cond known (Ok e) (Err Fault.Undeclared)) (Err Fault.AboveLimit)) (Err Fault.Malformed)

unfoldable pub judged : Counts → (roles users : List Name) → Line → Result Entry Fault
judged c roles users line = let a = asked c roles users line in comes_to a.formed a.within a.known a.says

unfoldable pub policy_line : Counts → (roles users : List Name) → List ℕ → Result Entry Fault
policy_line c roles users line = judged c roles users (line_of (split 9 line))
