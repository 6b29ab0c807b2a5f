-- One step line of a trace: when it is malformed, when it names what it must not, and when its name is above the limit (document 01,
-- "The texts", and document 02, CR 2).
use Rattle.std.specs.Prelude.{ℕ, ◌-◌, Bool, true, false, cond, not, ◌&&◌, ◌||◌, List, [], ◌∷◌, Result, Ok, Err, leb, ltb, eqb, length}
use Rattle.tables.specs.declared.Name.{Name}
use Rattle.tables.specs.Names.{packed}
use Rattle.text.specs.Forms.{bytes, is_name, is_label, number_of}
use Rattle.text.specs.Pieces.{split, same_bytes}
use Rattle.walking.specs.declared.Fault.{Fault}
use Rattle.steps.specs.declared.Step.{Step}
use Rattle.fields.specs.Fields.{placed, is_declared}
use Rattle.traces.specs.declared.TraceLine.{TraceLine}

-- A step line by its fields: an assign step, a revoke step, a join, a leave, or none of them.
pub data Line : Type 0 where
  assign : (actor number user : List ℕ) → Line
  revoke : (actor number user : List ℕ) → Line
  join : (name clearance : List ℕ) → Line
  leave : (name : List ℕ) → Line
  other : Line

-- `leave`, name.
unfoldable pub two_fields : (word name : List ℕ) → Line
two_fields word name = cond (same_bytes word (bytes "leave")) (leave name) other

-- `join`, name, clearance.
unfoldable pub three_fields : (word name clearance : List ℕ) → Line
three_fields word name clearance = cond (same_bytes word (bytes "join")) (join name clearance) other

-- `assign` or `revoke`, actor, number, user.
unfoldable pub four_fields : (word actor number user : List ℕ) → Line
four_fields word actor number user =
    cond (same_bytes word (bytes "assign")) (assign actor number user) (cond (same_bytes word (bytes "revoke")) (revoke actor number user) other)

-- Any other number of fields is no step.
unfoldable pub line_of : List (List ℕ) → Line
line_of [] = other
line_of (w ∷ []) = other
line_of (w ∷ a ∷ []) = two_fields w a
line_of (w ∷ a ∷ b ∷ []) = three_fields w a b
line_of (w ∷ a ∷ b ∷ c ∷ []) = four_fields w a b c
line_of (w ∷ a ∷ b ∷ c ∷ d ∷ more) = other

-- An actor's name, a rule number and a user's name.
unfoldable pub is_step : (actor number user : List ℕ) → Bool
is_step actor number user = is_name actor && is_name user && not (eqb (number_of number) 0)

-- Both are known, and there are as many rules of the kind.
unfoldable pub step_named : (rules : ℕ) → List Name → (actor number user : List ℕ) → Bool
step_named rules names actor number user = is_declared names actor && is_declared names user && leb (number_of number) rules

-- A step line is well formed: an assign step, a revoke step, a name and a clearance, or a name.
unfoldable pub step_formed : Line → Bool
step_formed (assign actor number user) = is_step actor number user
step_formed (revoke actor number user) = is_step actor number user
step_formed (join name clearance) = is_name name && is_label clearance
step_formed (leave name) = is_name name
step_formed other = false

-- It names users that are known and a rule of the policy. A join's own name need not be known.
unfoldable pub step_known : (assigns revokes : ℕ) → List Name → Line → Bool
step_known assigns revokes names (assign actor number user) = step_named assigns names actor number user
step_known assigns revokes names (revoke actor number user) = step_named revokes names actor number user
step_known assigns revokes names (join name clearance) = true
step_known assigns revokes names (leave name) = is_declared names name
step_known assigns revokes names other = true

-- A join is not of the 65th name: its name is known, or fewer than 64 are.
unfoldable pub step_within : List Name → Line → Bool
step_within names (assign actor number user) = true
step_within names (revoke actor number user) = true
step_within names (join name clearance) = is_declared names name || ltb (length names) 64
step_within names (leave name) = true
step_within names other = true

-- What the line says: its step, by places from 0. A name that is not known has the next place. Any other line is malformed.
unfoldable pub step_said : List Name → Line → Step
step_said names (assign actor number user) = Step.Assign (placed names actor) (number_of number - 1) (placed names user)
step_said names (revoke actor number user) = Step.Revoke (placed names actor) (number_of number - 1) (placed names user)
step_said names (join name clearance) = Step.Join (placed names name) (same_bytes clearance (bytes "H"))
step_said names (leave name) = Step.Leave (placed names name)
step_said names other = Step.Assign 0 0 0

-- The name that a join brings; any other line brings the name of no bytes.
abbrev pub no_name : Name
no_name = packed []

abbrev pub nameless : Step → TraceLine
nameless step = record { step = step; name = no_name }

unfoldable pub name_brought : Line → Name
name_brought (assign actor number user) = no_name
name_brought (revoke actor number user) = no_name
name_brought (join name clearance) = packed name
name_brought (leave name) = no_name
name_brought other = no_name

-- What a line comes to: malformed, then names, then the limit of names, and else what it says.
unfoldable pub comes_to : {A : Type 0} (formed known within : Bool) → A → Result A Fault
comes_to formed known within says = cond formed (cond known (cond within (Ok says) (Err Fault.AboveLimit)) (Err Fault.Undeclared)) (Err Fault.Malformed)

-- A step line comes to its step and the name that it brings.
unfoldable pub judged : (assigns revokes : ℕ) → List Name → Line → Result TraceLine Fault
judged assigns revokes names line =
    comes_to (step_formed line) (step_known assigns revokes names line) (step_within names line) (record { step = step_said names line; name = name_brought line })

-- A step line, judged by its fields.
unfoldable pub trace_line : (assigns revokes : ℕ) → List Name → List ℕ → Result TraceLine Fault
trace_line assigns revokes names line = judged assigns revokes names (line_of (split 9 line))
