-- The refusal of a policy and a piece of evidence, and where the bad line stands (document 01, "Verdicts and refusal numbers").
use Rattle.std.specs.Prelude.{ℕ, zero, suc, ◌+◌, ◌-◌, Bool, true, false, cond, ◌||◌, Option, Some, None, List, ◌≡◌, ltb, leb, eqb, length, drop}
use Rattle.text.specs.Index.{index_of}
use Rattle.text.specs.Pieces.{part}
use Rattle.walking.specs.Texts.{Reading, read, refused}
use Rattle.ledgers.specs.Ledger.{ledger_words}
use Rattle.ledgers.specs.Memory.{no_memory, in_memory}
use Rattle.reading.specs.Policy.{Said, read_policy}
use Rattle.walking.specs.declared.Refusal.{Refusal}
use Rattle.places.specs.declared.Span.{Span}
use Rattle.places.specs.declared.BadPlace.{BadPlace}
use Rattle.typings.specs.Kind.{is_typing}
use Rattle.typings.specs.TypingText.{read_typing}
use Rattle.traces.specs.TraceText.{read_trace}

-- a refusal's number and line; a text that is read has no refusal
unfoldable pub told : {S : Type 0} → Reading S → Option Refusal
told (read s) = None
told (refused number line) = Some (record { number = number; line = line })

-- Order: policy length, policy lines, evidence length, evidence lines; the evidence is read as a typing or as a trace.
unfoldable pub refusal_after : Reading Said → (typing : Bool) → List ℕ → Option Refusal
refusal_after (read s) typing evidence = cond typing (told (read_typing s.roles evidence)) (told (read_trace (length s.assigns) (length s.revokes) s.users evidence))
refusal_after (refused number line) typing evidence = Some (record { number = number; line = line })

-- The refusal of a policy and a piece of evidence, read as a typing or as a trace.
unfoldable pub refusal_as : (typing : Bool) (policy evidence : List ℕ) → Option Refusal
refusal_as typing policy evidence = refusal_after (read_policy policy) typing evidence

-- The refusal of a policy and a piece of evidence, which is read as its first line says.
abbrev pub refusal_of : (policy evidence : List ℕ) → Option Refusal
refusal_of policy evidence = refusal_as (is_typing evidence) policy evidence

-- The refusal of a policy and a text where a typing is wanted, which is read as a typing whatever its first line.
abbrev pub typing_refusal_of : (policy typing : List ℕ) → Option Refusal
typing_refusal_of policy typing = refusal_as true policy typing

-- Where the line stands that comes so many lines after the one at a place, without its LF. What follows the last LF is a line
-- where it has a byte.
unfoldable pub span_of : List ℕ → (at skipped : ℕ) → Option Span
span_of text at zero = cond (ltb at (length text)) (Some (record { from = at; to = at + index_of 10 (drop at text) })) None
span_of text at (suc skipped) =
    let stop = at + index_of 10 (drop at text) in
    let rest = span_of text (stop + 1) skipped in
    cond (ltb stop (length text)) rest None

-- No line is bad: 10 and 14 have line 0, and 21 has no bad line.
unfoldable pub no_line : Refusal → Bool
no_line r = eqb r.line 0 || ltb 16 r.number

-- The bad line of 11 to 13 is a line of the policy, that of 15 and 16 a line of the evidence.
unfoldable pub bad_span : (policy evidence : List ℕ) → Refusal → Option Span
bad_span policy evidence r = cond (no_line r) None (cond (ltb r.number 14) (span_of policy 0 (r.line - 1)) (span_of evidence 0 (r.line - 1)))

-- The empty part at the policy's start.
unfoldable pub no_place : BadPlace
no_place = record { evidence = false; from = 0; to = 0 }

-- A line of the evidence or of the policy, where there is one.
unfoldable pub placed : (evidence : Bool) → Option Span → BadPlace
placed evidence None = no_place
placed evidence (Some s) = record { evidence = evidence; from = s.from; to = s.to }

-- Which text the bad line of a refusal stands in, and where: nowhere, at the policy's start, where no line is bad.
unfoldable pub place_of : (policy evidence : List ℕ) → Option Refusal → BadPlace
place_of policy evidence None = no_place
place_of policy evidence (Some r) = placed (leb 14 r.number) (bad_span policy evidence r)

-- The bytes at a place of one of the two texts.
abbrev pub bytes_at : (policy evidence : List ℕ) → BadPlace → List ℕ
bytes_at policy evidence place = cond place.evidence (part evidence place.from place.to) (part policy place.from place.to)

-- The bad line of a policy and a piece of evidence: its place, and its bytes.
abbrev pub bad_place : (policy evidence : List ℕ) → BadPlace
bad_place policy evidence = place_of policy evidence (refusal_of policy evidence)

unfoldable pub bad_line : (policy evidence : List ℕ) → List ℕ
bad_line policy evidence = bytes_at policy evidence (bad_place policy evidence)

-- The same of a policy and a text where a typing is wanted.
abbrev pub bad_typing_place : (policy typing : List ℕ) → BadPlace
bad_typing_place policy typing = place_of policy typing (typing_refusal_of policy typing)

unfoldable pub bad_typing_line : (policy typing : List ℕ) → List ℕ
bad_typing_line policy typing = bytes_at policy typing (bad_typing_place policy typing)

-- Where a part of one of the two texts begins: in that text, so many bytes behind its first. A place in memory is a block and an
-- offset in it; those of the two texts' first bytes are given.
unfoldable pub begins_at : (policy evidence : ℕ × ℕ) → BadPlace → ℕ × ℕ
begins_at policy evidence place =
    let text = cond place.evidence evidence policy in
    (text.0, place.from + text.1)

-- The part that is given back for a refusal of two texts, by where it begins and its bytes.
pub record LineAt (policy-start : ℕ × ℕ) (policy : List ℕ) (evidence-start : ℕ × ℕ) (evidence : List ℕ) (r : Option Refusal) (start : ℕ × ℕ) (line : List ℕ) : Type 0 where
  pub bytes : line ≡ bytes_at policy evidence (place_of policy evidence r)
  pub begins : start ≡ begins_at policy-start evidence-start (place_of policy evidence r)

-- In lent memory of so many words: the refusal for too little memory, at line 0, or the refusal itself.
unfoldable pub lent_refusal : ℕ → Option Refusal → Option Refusal
lent_refusal words r = in_memory ledger_words words (Some (record { number = no_memory; line = 0 })) r
