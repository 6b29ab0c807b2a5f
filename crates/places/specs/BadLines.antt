-- The bad line by the refusal's number and line: the line of that number, as the readers count lines (document 01, "Verdicts and refusal numbers").
use Rattle.std.specs.Prelude.{ℕ, ◌+◌, ◌-◌, ◌≤◌, ◌<◌, Bool, true, false, Option, Some, None, List, [], ◌∷◌, ◌≡◌, length, get_or, take}
use Rattle.text.specs.Pieces.{split}
use Rattle.walking.specs.Meaning.{LF}
use Rattle.walking.specs.declared.Refusal.{Refusal}
use Rattle.places.specs.declared.BadPlace.{BadPlace}
use Rattle.places.specs.Place.{no_place}

-- The line of a number, from 1, without its LF: that piece of the text between LFs.
unfoldable pub line_at : ℕ → List ℕ → List ℕ
line_at n text = get_or (split LF text) (n - 1) []

-- How many bytes lines have, each with its LF.
unfoldable pub bytes_in : List (List ℕ) → ℕ
bytes_in [] = 0
bytes_in (line ∷ lines) = length line + 1 + bytes_in lines

-- Where the line of a number begins: behind the lines above it.
unfoldable pub start_of : ℕ → List ℕ → ℕ
start_of n text = bytes_in (take (n - 1) (split LF text))

-- The text has a line of that number: there is such a piece and, where it is the last, it has a byte.
pub record HasLine (n : ℕ) (text : List ℕ) : Type 0 where
  pub from_one : 0 < n
  pub within : n ≤ length (split LF text)
  pub filled : n ≡ length (split LF text) → 0 < length (line_at n text)

-- The number is one past the last line: the last piece is empty.
pub record PastLast (n : ℕ) (text : List ℕ) : Type 0 where
  pub last : n ≡ length (split LF text)
  pub empty : length (line_at n text) ≡ 0

-- The numbers of refusals with a bad line in the policy.
pub data OfPolicy : ℕ → Type 0 where
  malformed : OfPolicy 11
  above_limit : OfPolicy 12
  undeclared : OfPolicy 13

-- The numbers of refusals with a bad line in the evidence.
pub data OfEvidence : ℕ → Type 0 where
  malformed : OfEvidence 15
  misnamed : OfEvidence 16

-- A refusal with that number at that line.
abbrev pub at_line : (number line : ℕ) → Option Refusal
at_line number line = Some (record { number = number; line = line })

-- What has no bad line: no refusal, a text that is too long, and a user name above the limit.
pub data OfNeither : Option Refusal → Type 0 where
  none : OfNeither None
  policy_long : OfNeither (at_line 10 0)
  evidence_long : OfNeither (at_line 14 0)
  above_limit : {n : ℕ} → OfNeither (at_line 21 n)

-- The place of a line of the evidence or of the policy.
unfoldable pub line_place : (evidence : Bool) (n : ℕ) (text : List ℕ) → BadPlace
line_place evidence n text = record { evidence = evidence; from = start_of n text; to = start_of n text + length (line_at n text) }

-- What the bad line of a refusal is, its place and its bytes: that line of the policy or of the evidence, without its LF; for a
-- missing `end`, and where no line is bad, the empty part at the policy's start.
pub data BadAt (policy evidence : List ℕ) : Option Refusal → BadPlace → List ℕ → Type 0 where
  in_policy : {k n : ℕ} → OfPolicy k → HasLine n policy → BadAt policy evidence (at_line k n) (line_place false n policy) (line_at n policy)
  in_evidence : {k n : ℕ} → OfEvidence k → HasLine n evidence → BadAt policy evidence (at_line k n) (line_place true n evidence) (line_at n evidence)
  past_policy : {k n : ℕ} → OfPolicy k → PastLast n policy → BadAt policy evidence (at_line k n) no_place []
  past_evidence : {k n : ℕ} → OfEvidence k → PastLast n evidence → BadAt policy evidence (at_line k n) no_place []
  no_line_lem : {r : Option Refusal} → OfNeither r → BadAt policy evidence r no_place []
