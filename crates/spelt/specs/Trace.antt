-- A trace text by its bytes (document 01, "The texts", and document 02, CR 2).
use Rattle.std.specs.Prelude.{ℕ, suc, ◌≤◌, ◌<◌, Bool, true, ◌≡◌, length}
use mathlib.Core.List.{List, [], ◌∷◌, ◌++◌, map, Memᴰ as Listed}
use Rattle.tables.specs.Names.{packed}
use Rattle.text.specs.Forms.{bytes, is_name}
use Rattle.text.specs.Pieces.{parted}
use Rattle.writing.specs.Written.{decimal}
use Rattle.spelling.specs.TypingText.{label_text}
use Rattle.steps.specs.declared.Step.{Step}
use Rattle.steps.specs.Places.{At}
use Rattle.traces.specs.TraceText.{Traced}
use Rattle.spelt.specs.Lines.{ended}

-- A step's line: a word, the actor's name, the rule's number, the user's name, parted by tabs. The actor and the user are the places
-- of their names among those that are known; the rule's number counts the rules of its kind from 1, in decimal with at most three digits.
pub record StepLine (names : List (List ℕ)) (rules : ℕ) (word line : List ℕ) (actor rule user : ℕ) : Type 0 where
  pub actor_name : List ℕ
  pub user_name : List ℕ
  pub fields : line ≡ parted 9 (word ∷ actor_name ∷ decimal (suc rule) ∷ user_name ∷ [])
  pub is_actor : At actor_name names actor
  pub is_rule : rule < rules
  pub is_short : suc rule < 1000
  pub is_user : At user_name names user

module _ (assigns revokes : ℕ) where
  -- A step's line over the names that are known, and the names that are known after it. An assign step and a revoke step have their own
  -- word. `join`, a name and a clearance: of a new name, where fewer than 64 are known, which has the next place and is then known too; or
  -- of a name that is known. `leave` and a name that is known.
  pub data StepSpelt (names : List (List ℕ)) : List ℕ → Step → List (List ℕ) → Type 0 where
    assign : {line : List ℕ} {actor rule user : ℕ} → StepLine names assigns (bytes "assign") line actor rule user → StepSpelt names line (Step.Assign actor rule user) names
    revoke : {line : List ℕ} {actor rule user : ℕ} → StepLine names revokes (bytes "revoke") line actor rule user → StepSpelt names line (Step.Revoke actor rule user) names
    join : {name : List ℕ} {clearance : Bool} → is_name name ≡ true → (Listed name names → ⊥) → length names < 64
        → StepSpelt names (parted 9 (bytes "join" ∷ name ∷ label_text clearance ∷ [])) (Step.Join (length names) clearance) (names ++ (name ∷ []))
    join_again : {name : List ℕ} {user : ℕ} {clearance : Bool} → At name names user → StepSpelt names (parted 9 (bytes "join" ∷ name ∷ label_text clearance ∷ [])) (Step.Join user clearance) names
    leave : {name : List ℕ} {user : ℕ} → At name names user → StepSpelt names (parted 9 (bytes "leave" ∷ name ∷ [])) (Step.Leave user) names

  -- A line for each step, in their order, and the names that are known at the end.
  pub data StepsSpelt : (names lines : List (List ℕ)) → List Step → (known : List (List ℕ)) → Type 0 where
    none : {names : List (List ℕ)} → StepsSpelt names [] [] names
    another : {line : List ℕ} {step : Step} {steps : List Step} {names more all lines : List (List ℕ)} → StepSpelt names line step more → StepsSpelt more lines steps all
        → StepsSpelt names (line ∷ lines) (step ∷ steps) all

  -- The text, over a policy's users and rule counts: at most 32,768 bytes; the header, a line for each step, `end`. At first the users are
  -- known.
  pub record TraceSpelt (users : List (List ℕ)) (text : List ℕ) (t : Traced) : Type 0 where
    pub short : length text ≤ 32768
    pub steps : List (List ℕ)
    pub lines : text ≡ ended (bytes "trace\t1" ∷ (steps ++ (bytes "end" ∷ [])))
    pub known : List (List ℕ)
    pub says : StepsSpelt users steps t.steps known
    pub names : t.names ≡ map packed known
    pub begun : t.started ≡ true
