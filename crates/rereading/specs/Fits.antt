-- A typing that is read has a row for each role, and its sets have only declared roles.
use Rattle.std.specs.Prelude.{ℕ, suc, ◌+◌, true, ◌&&◌, ◌≡◌, eqb, length, Result}
use Rattle.std.proofs.Math.Bool.{and-eq-true_iff}
use Rattle.std.proofs.lemmas.Bool.{false≢true}
use mathlib.Core.List.Memᴰ.{not-nil}
use mathlib.Core.List.{List, Memᴰ as Listed}
use Rattle.std.proofs.Common.{subst, ◌∙◌, eqb-true, add-one, arith}
use Rattle.roles.specs.declared.RoleSet.{RoleSet}
use Rattle.tables.specs.declared.Name.{Name}
use Rattle.text.specs.Pieces.{split}
use Rattle.walking.specs.Texts.{Judged, goes, ends, bad, read}
use Rattle.fields.specs.Fields.{placed, all_declared}
use Rattle.fields.specs.Roles.{Inside, roles_inside}
use Rattle.walking.specs.Kept.{text_keeps}
use Rattle.walking.specs.MeaningLaws.{read_exact}
use Rattle.walking.specs.declared.Fault.{Fault}
use Rattle.typings.specs.declared.TypingEntry.{TypingEntry}
use Rattle.typings.specs.TypingLineLaws.{tested_cases}
use Rattle.typings.specs.TypingLines.{Line, header, row, end, other, line_of, well_formed, named, entry, judged, typing_line}
use Rattle.typings.specs.TypingText.{Typed, untyped, added, answered, judge_line, read_typing}
use Rattle.text.specs.Lists.{each_more}
use Rattle.verdicts.specs.TypingLaid.{read_rows}

-- A label, a plus set and a minus set for each name, and the sets have only the roles of names.
pub record Fits (names : List Name) (t : Typed) : Type 0 where
  pub stage : t.stage ≡ suc (length names)
  pub labels : length t.labels ≡ length names
  pub plus : length t.plus ≡ length names
  pub minus : length t.minus ≡ length names
  pub plus_inside : (s : RoleSet) → Listed s t.plus → Inside (length names) s
  pub minus_inside : (s : RoleSet) → Listed s t.minus → Inside (length names) s

-- ---- what a judged line means for the rows above it

-- all their sets have only the roles of names
record Sets (roles : ℕ) (t : Typed) : Type 0 where
  plus : (s : RoleSet) → Listed s t.plus → Inside roles s
  minus : (s : RoleSet) → Listed s t.minus → Inside roles s

-- a line that is added keeps the roles declared, and `end` stands after a row for each role
abbrev Means : ℕ → Typed → Judged Typed → Type 0
Means roles s (goes t) = Sets roles t
Means roles s ends = s.stage ≡ suc roles
Means roles s (bad number) = Unit {0}

-- what the test of each kind of line says
row_known : (stage : ℕ) (names : List Name) (name label plus minus : List ℕ) → named stage names (row name label plus minus) ≡ true → (all_declared names plus ≡ true) × (all_declared names minus ≡ true)
unfolding named
row_known stage names name label plus minus known =
    (and-eq-true_iff (all_declared names plus) (all_declared names minus)).0 ((and-eq-true_iff (eqb (placed names name + 1) stage) (all_declared names plus && all_declared names minus)).0 known).1

end_stage : (stage roles : ℕ) → well_formed stage roles end ≡ true → stage ≡ suc roles
unfolding well_formed
end_stage stage roles formed = eqb-true stage (roles + 1) formed ∙ add-one roles

other_bad : (stage roles : ℕ) → well_formed stage roles other ≡ true → ⊥
unfolding well_formed
other_bad stage roles formed = false≢true formed

-- a good line, by its fields
entry_means : (names : List Name) (s : Typed) (line : Line) → Sets (length names) s → well_formed s.stage (length names) line ≡ true → named s.stage names line ≡ true → Means (length names) s (added s (entry names line))
unfolding added entry
entry_means names s (header edition) sets formed known = record { plus = sets.plus; minus = sets.minus }
entry_means names s (row name label plus minus) sets formed known =
    let both = row_known s.stage names name label plus minus known in
    record {
      plus = each_more (Inside (length names)) s.plus sets.plus (roles_inside names plus both.0);
      minus = each_more (Inside (length names)) s.minus sets.minus (roles_inside names minus both.1);
    }
entry_means names s end sets formed known = end_stage s.stage (length names) formed
entry_means names s other sets formed known = absurd (other_bad s.stage (length names) formed)

-- and any line
line_means : (names : List Name) (s : Typed) (line : List ℕ) → Sets (length names) s → Means (length names) s (judge_line names s line)
unfolding judge_line answered typing_line judged
line_means names s line sets =
    tested_cases (λ (a : Result TypingEntry Fault). Means (length names) s (answered s a)) _ _ _ (λ fault. tt) (λ formed known. entry_means names s (line_of (split 9 line)) sets formed known)

-- ---- the typing that is read

-- no rows
untyped_sets : (roles : ℕ) → Sets roles untyped
unfolding untyped
untyped_sets roles = record { plus = λ s listed. absurd (not-nil listed); minus = λ s listed. absurd (not-nil listed) }

-- its rows are those of good lines
read_sets : (names : List Name) (text : List ℕ) {t : Typed} → read_typing names text ≡ read t → Sets (length names) t
unfolding read_typing
read_sets names text {t} is =
    text_keeps (judge_line names) 15 (Sets (length names)) (λ s u line leads sets. subst (Means (length names) s) leads (line_means names s line sets)) 14 untyped t text is (untyped_sets (length names))

-- its last line is `end`
read_stage : (names : List Name) (text : List ℕ) {t : Typed} → read_typing names text ≡ read t → t.stage ≡ suc (length names)
unfolding read_typing
read_stage names text {t} is =
    let whole = (read_exact (judge_line names) 15 14 untyped text t).0 is in
    subst (Means (length names) t) whole.is_end (line_means names t whole.line (read_sets names text is))

-- A typing that is read fits the names it is read over.
pub fits_read : (names : List Name) (text : List ℕ) {t : Typed} → read_typing names text ≡ read t → Fits names t
fits_read names text {t} is =
    let all = read_stage names text is in
    let rows = (read_rows names text is).rowed in
    let sets = read_sets names text is in
    record {
      stage = all;
      labels = omega (arith, all, rows.labels);
      plus = omega (arith, all, rows.plus);
      minus = omega (arith, all, rows.minus);
      plus_inside = sets.plus;
      minus_inside = sets.minus;
    }
