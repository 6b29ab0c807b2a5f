-- Each kind of typing line from what a reader finds.
use Rattle.std.specs.Prelude.{ℕ, ◌+◌, ◌-◌, ◌≤◌, Bool, true, false, cond, ◌&&◌, List, ◌≡◌, refl, leb, ltb, eqb, length, Result, Ok, Err, Option, Some, None}
use Rattle.std.specs.Option.{option_eq}
use Rattle.std.proofs.Math.Bool.{and-eq-true_iff}
use Rattle.std.proofs.Common.{true≢false, sym, ap, ap₂, subst, ◌∙◌, leb-true, ltb-false, arith}
use Rattle.std.proofs.lemmas.Bool.Decides.{nat_tests}
use borrow.Author.Tests.{ne_eqb}
use Rattle.roles.specs.declared.RoleSet.{RoleSet}
use Rattle.tables.specs.declared.Name.{Name}
use Rattle.tables.specs.Names.{packed, place_of, found_in}
use Rattle.text.specs.Forms.{bytes, is_name, is_set, is_label}
use Rattle.text.specs.Pieces.{split, same_bytes}
use Rattle.walking.specs.declared.Fault.{Fault}
use Rattle.walking.specs.Faults.{passing, evidence_fault}
use Rattle.walking.specs.Turns.{in_turn}
use Rattle.walking.specs.TurnLaws.{turn_cases}
use Rattle.walking.specs.Evidence.{tests}
use Rattle.fields.specs.Fields.{placed, all_declared, roles_of, field_read, set_read, both_read}
use Rattle.fields.specs.FieldLaws.{both_fields}
use Rattle.typings.specs.declared.TypingEntry.{TypingEntry}
use Rattle.typings.specs.TypingLines.{end, entry, header, judged, line_of, named, one_field, other, row, tested, two_fields, typing_line, well_formed}

-- ---- the tests of a line, one after the other

-- What a line comes to is their answer, each with its number.
tested_in_turn : (formed known : Bool) (says : TypingEntry) → tested formed known says ≡ in_turn (λ number. Err (evidence_fault number)) (tests formed known) (Ok says)
unfolding in_turn
tested_in_turn true true says = refl
tested_in_turn true false says = refl
tested_in_turn false known says = refl

pub typing_in_turn : (stage : ℕ) (names : List Name) (line : List ℕ)
    → let l = line_of (split 9 line) in typing_line stage names line ≡ in_turn (λ number. Err (evidence_fault number)) (tests (well_formed stage (length names) l) (named stage names l)) (Ok (entry names l))
unfolding typing_line judged
typing_in_turn stage names line = tested_in_turn _ _ _

-- What holds of a line with a fault and of a good one holds of what the line comes to.
pub tested_cases : (P : Result TypingEntry Fault → Type 0) (formed known : Bool) (says : TypingEntry) → ((fault : Fault) → P (Err fault)) → (formed ≡ true → known ≡ true → P (Ok says)) → P (tested formed known says)
tested_cases P formed known says fails passes =
    subst P (sym (tested_in_turn formed known says)) (turn_cases P (λ number. Err (evidence_fault number)) (tests formed known) (Ok says) (λ number f. fails (evidence_fault number)) (λ p. passes p.0 p.1.0))

-- A test that fails decides, and one that passes leaves the rest.
pub test_fails : {A : Type 0} {found : Fault} (fault : Fault) (passes : Bool) (rest : Result A Fault) → Err found ≡ passing passes fault → Err found ≡ cond passes rest (Err fault)
test_fails fault true rest is = absurd (true≢false (cc))
test_fails fault false rest is = cc

pub test_passes : {A : Type 0} {found : Unit {0}} (fault : Fault) (passes : Bool) (rest : Result A Fault) → Ok found ≡ passing passes fault → rest ≡ cond passes rest (Err fault)
test_passes fault true rest is = refl
test_passes fault false rest is = absurd (true≢false (cc))

-- ---- each kind of line, from what a reader finds

pub end_judged : (stage : ℕ) (names : List Name) (word : List ℕ) {count : ℕ} {is : Bool} {answer : Result TypingEntry Fault} → length names ≡ count → is ≡ same_bytes word (bytes "end")
    → answer ≡ tested (is && eqb stage (count + 1)) true TypingEntry.End → answer ≡ judged stage names (one_field word)
unfolding judged well_formed named entry one_field
end_judged stage names word many same given = (cc) ∙ go (same_bytes word (bytes "end"))
  where
    go : (b : Bool) → tested (b && eqb stage (length names + 1)) true TypingEntry.End ≡ judged stage names (cond b end other)
    go true = refl
    go false = refl

pub header_judged : (stage : ℕ) (names : List Name) (word edition : List ℕ) {is one : Bool} {answer : Result TypingEntry Fault} → is ≡ same_bytes word (bytes "typing") → one ≡ same_bytes edition (bytes "1")
    → answer ≡ tested ((is && eqb stage 0) && one) true TypingEntry.Header → answer ≡ judged stage names (two_fields word edition)
unfolding judged well_formed named entry two_fields
header_judged stage names word edition same first given = (cc) ∙ go (same_bytes word (bytes "typing"))
  where
    go : (b : Bool)
        → tested ((b && eqb stage 0) && same_bytes edition (bytes "1")) true TypingEntry.Header ≡ judged stage names (cond b (header edition) other)
    go true = refl
    go false = refl

-- what a row says by its sets and its role, and a row at its place with its name and its label
abbrev pub row_says : (own high : Bool) → Result (RoleSet × RoleSet) Fault → Result TypingEntry Fault
row_says own high (Err fault) = Err fault
row_says own high (Ok (plus, minus)) = cond own (Ok (TypingEntry.Row high plus minus)) (Err Fault.Undeclared)

abbrev pub row_answer : (ordered own high : Bool) → Result (RoleSet × RoleSet) Fault → Result TypingEntry Fault
row_answer ordered own high sets = cond ordered (row_says own high sets) (Err Fault.Malformed)

row_tested : (ordered own high formed known : Bool) (plus minus : RoleSet)
    → row_answer ordered own high (field_read formed known (plus, minus)) ≡ tested (ordered && formed) (own && known) (TypingEntry.Row high plus minus)
unfolding field_read
row_tested true true high true true plus minus = refl
row_tested true true high true false plus minus = refl
row_tested true true high false known plus minus = refl
row_tested true false high true true plus minus = refl
row_tested true false high true false plus minus = refl
row_tested true false high false known plus minus = refl
row_tested false own high formed known plus minus = refl

place_below : (place stage : ℕ) → 1 ≤ stage → eqb place (stage - 1) ≡ eqb (place + 1) stage
place_below place stage least = grind (arith, nat_tests)

-- where the place is a role's, that role is found exactly where the name is its own
own_found : (stage : ℕ) (names : List Name) (name : List ℕ) → 1 ≤ stage → stage ≤ length names → option_eq eqb (found_in names (packed name)) (Some (stage - 1)) ≡ eqb (placed names name + 1) stage
unfolding found_in placed
own_found stage names name least most = go (ltb (place_of names (packed name)) (length names)) refl
  where
    go : (b : Bool) → ltb (place_of names (packed name)) (length names) ≡ b → option_eq eqb (cond b (Some (place_of names (packed name))) None) (Some (stage - 1)) ≡ eqb (place_of names (packed name) + 1) stage
    go true is = place_below (place_of names (packed name)) stage least
    go false is = sym (ne_eqb (place_of names (packed name) + 1) stage (omega (arith, ltb-false (place_of names (packed name)) (length names) is)))

pub row_judged : (stage : ℕ) (names : List Name) (name label plus minus : List ℕ) {count : ℕ} {is lab high own : Bool} {place : Option ℕ} {P M : Result RoleSet Fault} {sets : Result (RoleSet × RoleSet) Fault}
    {answer : Result TypingEntry Fault}
    → length names ≡ count → is ≡ is_name name → lab ≡ is_label label → P ≡ set_read names plus → M ≡ set_read names minus → sets ≡ both_read P M → place ≡ found_in names (packed name)
    → own ≡ option_eq eqb place (Some (stage - 1)) → high ≡ same_bytes label (bytes "H") → answer ≡ row_answer (((leb 1 stage && leb stage count) && is) && lab) own high sets
    → answer ≡ judged stage names (row name label plus minus)
unfolding judged well_formed named entry set_read
row_judged stage names name label plus minus {own = own} {sets = sets} many named-is labelled hP hM together found hO tall given =
    (cc) ∙ placed_same ordered refl
    ∙ ap (row_answer ordered (eqb (placed names name + 1) stage) (same_bytes label (bytes "H")))
    (together ∙ ap₂ both_read hP hM ∙ both_fields (is_set plus) (all_declared names plus) (is_set minus) (all_declared names minus) (roles_of names plus) (roles_of names minus))
    ∙ row_tested _ _ _ _ _ _ _
  where
    ordered : Bool
    ordered = ((leb 1 stage && leb stage (length names)) && is_name name) && is_label label

    placed_same : (b : Bool) → ordered ≡ b → row_answer b own (same_bytes label (bytes "H")) sets ≡ row_answer b (eqb (placed names name + 1) stage) (same_bytes label (bytes "H")) sets
    placed_same true is =
        let three = ((and-eq-true_iff ((leb 1 stage && leb stage (length names)) && is_name name) (is_label label)).0 is).0 in
        let two = ((and-eq-true_iff (leb 1 stage && leb stage (length names)) (is_name name)).0 three).0 in
        let both = (and-eq-true_iff (leb 1 stage) (leb stage (length names))).0 two in
        ap (λ (o : Bool). row_says o (same_bytes label (bytes "H")) sets) (hO ∙ ap (λ (p : Option ℕ). option_eq eqb p (Some (stage - 1))) found ∙ own_found stage names name (leb-true 1 stage both.0) (leb-true stage (length names) both.1))
    placed_same false is = refl

pub other-judged : (stage : ℕ) (names : List Name) → Err Fault.Malformed ≡ judged stage names other
unfolding judged well_formed
other-judged stage names = refl

-- ---- the fields of a line

pub by_fields : (stage : ℕ) (names : List Name) (line : List ℕ) {fields : List (List ℕ)} → split 9 line ≡ fields → judged stage names (line_of fields) ≡ typing_line stage names line
unfolding typing_line
by_fields stage names line cut = sym (ap (λ (l : List (List ℕ)). judged stage names (line_of l)) cut)
