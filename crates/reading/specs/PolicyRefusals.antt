-- When a policy line and a policy text are refused and read, in document 01's words.
use Rattle.std.specs.Prelude.{ℕ, suc, ◌≤◌, ◌<◌, Bool, true, false, List, [], ◌∷◌, ◌≡◌, length}
use Rattle.model.specs.Policy.{Holds}
use Rattle.text.specs.Forms.{bytes}
use Rattle.text.specs.Pieces.{split}
use Rattle.fields.specs.Fields.{placed}
use Rattle.lines.specs.Lines.{Line, has, line_of, goal_kind}
use Rattle.reading.specs.Policy.{Said, nothing, added, line_asked, judge_line}
use Rattle.walking.specs.Meaning.{Unbroken, Above, LineAt}

-- ---- one line

-- A line by its fields, which tabs part.
abbrev pub fields : List ℕ → Line
fields line = line_of (split 9 line)

module _ (s : Said) (line : List ℕ) where
  -- What the three tests say of the line, after what the lines above say.
  abbrev pub formed : Bool
  formed = (line_asked s line).formed

  abbrev pub within : Bool
  within = (line_asked s line).within

  abbrev pub known : Bool
  known = (line_asked s line).known

  -- The line is `has`, and its pair stands above already: the user holds the role.
  pub record Repeated : Type 0 where
    pub holder : List ℕ
    pub held : List ℕ
    pub is_has : fields line ≡ has holder held
    pub stands : Holds s.holdings (placed s.users holder) (placed s.roles held)

  -- The line is malformed: it lacks its form or its order or repeats a role or user name, or it is a has line of declared names
  -- that repeats a pair.
  pub data Malformed : Type 0 where
    form : formed ≡ false → Malformed
    pair : formed ≡ true → known ≡ true → Repeated → Malformed

  -- The line is well formed and above a count limit.
  pub record AboveLimit : Type 0 where
    pub is_formed : formed ≡ true
    pub is_above : within ≡ false

  -- The line is well formed, within its limit, and uses a name that is not declared above.
  pub record Undeclared : Type 0 where
    pub is_formed : formed ≡ true
    pub is_within : within ≡ true
    pub is_unknown : known ≡ false

  -- The line's refusal number, and why: malformed, then limit, then names.
  pub data Fault : (number : ℕ) → Type 0 where
    malformed : Malformed → Fault 11
    above_limit : AboveLimit → Fault 12
    undeclared : Undeclared → Fault 13

  -- The line is `end`, after a goal.
  pub record EndLine : Type 0 where
    pub is_end : line ≡ bytes "end"
    pub after_goal : s.stage ≡ goal_kind

  -- The line is good: it has no fault and is not `end`; what it says is added.
  pub record Good (t : Said) : Type 0 where
    pub is_formed : formed ≡ true
    pub is_within : within ≡ true
    pub is_known : known ≡ true
    pub is_new_lem : Repeated → ⊥
    pub goes_on : line ≡ bytes "end" → ⊥
    pub adds : t ≡ added s (line_asked s line).says

-- ---- the whole text

-- A policy is refused with a number at a line: 10 where it is too long; 11, 12 or 13 where all lines above the line are good and
-- the line is malformed, above a count limit or names what is undeclared; 11 where all lines above are good and no LF is left,
-- so that the last line has none or `end` is missing one past the last line; 11 where a byte follows the LF of `end`.
-- `good_exact` says what a good line is.
pub data PolicyRefusal (text : List ℕ) : (number line : ℕ) → Type 0 where
  too_long : 32768 < length text → PolicyRefusal text 10 0
  malformed : {n : ℕ} {s : Said} {line rest : List ℕ} → LineAt judge_line nothing text n s line rest → Malformed s line → PolicyRefusal text 11 n
  above_limit : {n : ℕ} {s : Said} {line rest : List ℕ} → LineAt judge_line nothing text n s line rest → AboveLimit s line → PolicyRefusal text 12 n
  undeclared : {n : ℕ} {s : Said} {line rest : List ℕ} → LineAt judge_line nothing text n s line rest → Undeclared s line → PolicyRefusal text 13 n
  no_end : {n : ℕ} {s : Said} {tail : List ℕ} → length text ≤ 32768 → Above judge_line nothing text n s tail → Unbroken tail → PolicyRefusal text 11 n
  after_end : {n : ℕ} {s : Said} {line rest : List ℕ} {byte : ℕ} → LineAt judge_line nothing text n s line (byte ∷ rest) → EndLine s line → PolicyRefusal text 11 (suc n)

-- A policy is read: some line, all above it good, is `end` after a goal, and nothing follows its LF.
pub record PolicyReadAs (text : List ℕ) (said : Said) : Type 0 where
  pub number : ℕ
  pub line : List ℕ
  pub last : LineAt judge_line nothing text number said line []
  pub is_end : EndLine said line
