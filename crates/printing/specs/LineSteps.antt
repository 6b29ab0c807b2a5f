-- The line of an answer that is known.
use Rattle.std.specs.Prelude.{ℕ, ◌≤◌, List, [], ◌∷◌, ◌++◌, ◌≡◌, length}
use Rattle.std.proofs.Common.{append_assoc, sym, ap, subst, ◌∙◌, lit≤, arith}
use Rattle.text.specs.Forms.{bytes}
use Rattle.judging.specs.declared.Part.{Part}
use Rattle.writing.specs.Written.{decimal}
use Rattle.showing.specs.Fields.{field, fields_on}
use Rattle.showing.specs.Steps.{Line}
use Rattle.answering.specs.declared.Answer.{Answer}
use Rattle.printing.specs.Line.{part_text, line_of}

-- the line of UNPROVED as it begins, from its words
pub unproved_begun : (part : Part) (number : ℕ) {words : List ℕ} {most next : ℕ} {buffer out : List ℕ} → words ≡ bytes "UNPROVED" ++ field (part_text part) → Line (fields_on words (number ∷ [])) most buffer next out
    → Line (bytes "UNPROVED" ++ field (part_text part) ++ field (decimal number)) most buffer next out
unfolding fields_on
unproved_begun part number {most = most} {next} {buffer} {out} same line =
    subst (λ (text : List ℕ). Line text most buffer next out) (ap (λ (w : List ℕ). w ++ field (decimal number)) same ∙ append_assoc (bytes "UNPROVED") (field (part_text part)) (field (decimal number))) line

-- the line of an answer that is known, which is short enough
pub known_line : {answer known : Answer} {most next : ℕ} {buffer out : List ℕ} → answer ≡ known → most ≤ 128 → Line (line_of known) most buffer next out → Line (line_of answer) 128 buffer next out
known_line {next = next} {buffer} {out} same few line =
    subst (λ (a : Answer). Line (line_of a) 128 buffer next out) (sym same) (record { wrote = line.wrote; few = omega (arith, line.few) })

-- a part's word is short
pub part_length : (part : Part) → length (part_text part) ≤ 8
unfolding part_text
part_length Part.Holdings = lit≤ tt
part_length Part.Assign = lit≤ tt
part_length Part.Revoke = lit≤ tt
part_length Part.Goal = lit≤ tt
