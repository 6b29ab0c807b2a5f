-- What holds between two lines while a typing is read: the arrays are what the rows so far say, and the rest decides.
use Prim.Native.Nat.{ℕ, suc, ◌+◌, ◌-◌, ◌≤◌, ◌<◌}
use Rattle.std.specs.Prelude.{Bool, true, ◌&&◌, ◌≡◌, refl, leb, eqb, length, Result, Ok, Err}
use Rattle.std.proofs.Math.Bool.{false, and-eq-true_iff}
use Rattle.std.proofs.Common.{true≢false, ap₂, subst, ◌∙◌, leb-true, eqb-true, length-append, arith}
use mathlib.Core.List.{List, [], ◌∷◌, ◌++◌}
use Rattle.std.proofs.Math.Path.{sym, ap}
use Rattle.std.proofs.Math.ListN.{set}
use Rattle.std.proofs.Math.Numerals.{add-one}
use Rattle.roles.specs.declared.RoleSet.{RoleSet}
use Rattle.roles.specs.Sets.{empty_set}
use Rattle.model.specs.declared.Typing.{Typing as Table}
use Rattle.tables.specs.declared.Name.{Name}
use Rattle.text.specs.Forms.{bytes, is_name, is_label, is_set}
use Rattle.text.specs.Pieces.{split, part, same_bytes, Sought}
use Rattle.walking.specs.declared.Fault.{Fault}
use Rattle.walking.specs.Faults.{evidence_number}
use Rattle.walking.specs.Texts.{Judged}
use Rattle.walking.specs.TextLaws.{text_long}
use Rattle.walking.specs.Walk.{On, on_start, on_end, on_tail, on_bad, on_goes, on_last, on_more}
use Rattle.tables.specs.Storing.{store_next}
use Rattle.typings.specs.declared.TypingEntry.{TypingEntry}
use Rattle.typings.specs.TypingLines.{Line, header, row, end, other, line_of, well_formed, entry, judged, typing_line}
use Rattle.typings.specs.TypingLineLaws.{tested_cases}
use Rattle.typings.specs.TypingText.{Typed, untyped, added, answered, judge_line, read_typing, table_of, refused_typing, answer_of, typing_read}

-- a good header stands first, and a good row at the place of a role
abbrev pub Fitting : (stage roles : ℕ) → TypingEntry → Type 0
Fitting stage roles TypingEntry.Header = stage ≡ 0
Fitting stage roles (TypingEntry.Row label plus minus) = (1 ≤ stage) × (stage ≤ roles)
Fitting stage roles TypingEntry.End = Unit {0}

pub entry-fits : (stage : ℕ) (names : List Name) (line : Line) → well_formed stage (length names) line ≡ true → Fitting stage (length names) (entry names line)
unfolding well_formed entry
entry-fits stage names (header edition) formed = eqb-true stage 0 ((and-eq-true_iff (eqb stage 0) (same_bytes edition (bytes "1"))).0 formed).0
entry-fits stage names (row name label plus minus) formed =
    let four = ((and-eq-true_iff (((leb 1 stage && leb stage (length names)) && is_name name) && is_label label) (is_set plus && is_set minus)).0 formed).0 in
    let three = ((and-eq-true_iff ((leb 1 stage && leb stage (length names)) && is_name name) (is_label label)).0 four).0 in
    let two = ((and-eq-true_iff (leb 1 stage && leb stage (length names)) (is_name name)).0 three).0 in
    let both = (and-eq-true_iff (leb 1 stage) (leb stage (length names))).0 two in
    (leb-true 1 stage both.0, leb-true stage (length names) both.1)
entry-fits stage names end formed = tt
entry-fits stage names other formed = tt

good_fits : (stage : ℕ) (names : List Name) (line : List ℕ) {e : TypingEntry} → typing_line stage names line ≡ Ok e → Fitting stage (length names) e
unfolding typing_line judged
good_fits stage names line {e} =
    tested_cases (λ (a : Result TypingEntry Fault). a ≡ Ok e → Fitting stage (length names) e) _ _ _ (λ fault is. absurd (true≢false (cc)))
    (λ formed known is. subst (Fitting stage (length names)) (cc) (entry-fits stage names (line_of (split 9 line)) formed))

-- as many labels and sets as rows
pub record Rowed (s : Typed) : Type 0 where
  pub labels : length s.labels ≡ s.stage - 1
  pub plus : length s.plus ≡ s.stage - 1
  pub minus : length s.minus ≡ s.stage - 1

pub record Reached (names : List Name) (text : List ℕ) (at number stage : ℕ) (t : Table) : Type 0 where
  -- what the rows so far say, as the arrays hold it
  pub said : Typed
  pub laid : t ≡ table_of said
  pub counted : stage ≡ said.stage
  pub rowed : Rowed said
  -- the whole text gives what the lines from here on give
  pub on : On (judge_line names) 15 14 untyped text at number said

pub reached_start : (names : List Name) (text : List ℕ) {t : Table} → length text ≤ 32768 → t ≡ table_of untyped → Reached names text 0 1 0 t
unfolding untyped
reached_start names text short blank = record {
  said = untyped;
  laid = blank;
  counted = refl;
  rowed = record { labels = refl; plus = refl; minus = refl };
  on = on_start (judge_line names) 15 14 untyped text short;
}

pub refused_long : (names : List Name) (text : List ℕ) → 32768 < length text → refused_typing 14 0 ≡ typing_read names text
unfolding typing_read read_typing answer_of
refused_long names text long = sym (ap answer_of (text_long (judge_line names) 15 14 untyped text long))

module _ {names : List Name} {text : List ℕ} {at number stage : ℕ} {t : Table} (r : Reached names text at number stage t) where
  -- no line is left, or one without LF
  pub reached_end : length text ≤ at → refused_typing 15 number ≡ typing_read names text
  unfolding typing_read read_typing answer_of
  reached_end past = sym (ap answer_of (on_end (judge_line names) 15 14 untyped r.on past))

  module _ {stop : ℕ} (sought : Sought text at 10 stop) where
    pub reached_tail : stop ≡ length text → refused_typing 15 number ≡ typing_read names text
    unfolding typing_read read_typing answer_of
    reached_tail last = sym (ap answer_of (on_tail (judge_line names) 15 14 untyped r.on sought last))

    module _ (here : stop < length text) {answer : Result TypingEntry Fault} (given : answer ≡ typing_line stage names (part text at stop)) where
      judged_is : {judged : Judged Typed} → answered r.said answer ≡ judged → judge_line names r.said (part text at stop) ≡ judged
      unfolding judge_line
      judged_is is = ap (answered r.said) (sym (given ∙ ap (λ (k : ℕ). typing_line k names (part text at stop)) r.counted)) ∙ is

      -- a line that is not good
      pub line_refused : {fault : Fault} → answer ≡ Err fault → refused_typing (evidence_number fault) number ≡ typing_read names text
      unfolding typing_read read_typing answer_of answered
      line_refused bad_line_lem = sym (ap answer_of (on_bad (judge_line names) 15 14 untyped r.on sought here (judged_is (ap (answered r.said) bad_line_lem))))

      pub line_header : answer ≡ Ok TypingEntry.Header → Reached names text (stop + 1) (number + 1) 1 t
      unfolding answered added table_of
      line_header good = record {
        said = record { stage = 1; labels = r.said.labels; plus = r.said.plus; minus = r.said.minus };
        laid = r.laid;
        counted = refl;
        rowed =
            let first = good_fits stage names (part text at stop) (sym given ∙ good) in
            record {
              labels = omega (arith, first, r.counted, r.rowed.labels);
              plus = omega (arith, first, r.counted, r.rowed.plus);
              minus = omega (arith, first, r.counted, r.rowed.minus);
            };
        on = on_goes (judge_line names) 15 14 untyped r.on sought here (judged_is (ap (answered r.said) good));
      }

      module _ {label : Bool} {plus minus : RoleSet} (good : answer ≡ Ok (TypingEntry.Row label plus minus)) where
        pub row_fits : (1 ≤ stage) × (stage ≤ length names)
        row_fits = good_fits stage names (part text at stop) (sym given ∙ good)

        pub line_row : length names ≤ 128
            → Reached names text (stop + 1) (number + 1) (stage + 1) (record { labels = set t.labels (stage - 1) label; plus = set t.plus (stage - 1) plus; minus = set t.minus (stage - 1) minus })
        unfolding answered added table_of
        line_row few = record {
          said = record { stage = suc r.said.stage; labels = r.said.labels ++ (label ∷ []); plus = r.said.plus ++ (plus ∷ []); minus = r.said.minus ++ (minus ∷ []) };
          laid = λ i. record {
            labels = (ap₂ (λ (l : List Bool) (k : ℕ). set l k label) (ap (λ (u : Table). u.labels) r.laid) (place r.rowed.labels) ∙ store_next 128 false r.said.labels label (room r.rowed.labels)) i;
            plus = (ap₂ (λ (l : List RoleSet) (k : ℕ). set l k plus) (ap (λ (u : Table). u.plus) r.laid) (place r.rowed.plus) ∙ store_next 128 empty_set r.said.plus plus (room r.rowed.plus)) i;
            minus = (ap₂ (λ (l : List RoleSet) (k : ℕ). set l k minus) (ap (λ (u : Table). u.minus) r.laid) (place r.rowed.minus) ∙ store_next 128 empty_set r.said.minus minus (room r.rowed.minus)) i;
          };
          counted = add-one stage ∙ ap suc r.counted;
          rowed = record {
            labels = longer (length-append r.said.labels (label ∷ [])) r.rowed.labels;
            plus = longer (length-append r.said.plus (plus ∷ [])) r.rowed.plus;
            minus = longer (length-append r.said.minus (minus ∷ [])) r.rowed.minus;
          };
          on = on_goes (judge_line names) 15 14 untyped r.on sought here (judged_is (ap (answered r.said) good));
        }
          where
            place : {n : ℕ} → n ≡ r.said.stage - 1 → stage - 1 ≡ n
            place many = omega (arith, r.counted)

            room : {n : ℕ} → n ≡ r.said.stage - 1 → n < 128
            room many = omega (arith, r.counted, row_fits)

            longer : {n m : ℕ} → n ≡ m + 1 → m ≡ r.said.stage - 1 → n ≡ suc r.said.stage - 1
            longer more many = omega (arith, r.counted, row_fits)

      -- the last line, and bytes after it
      module _ (ending : answer ≡ Ok TypingEntry.End) where
        pub line_last : length text ≤ stop + 1 → Ok t ≡ typing_read names text
        unfolding typing_read read_typing answer_of answered added
        line_last all =
            ap Ok r.laid
            ∙ sym (ap answer_of (on_last (judge_line names) 15 14 untyped r.on sought here (judged_is (ap (answered r.said) ending)) all))

        pub line_more : stop + 1 < length text → refused_typing 15 (number + 1) ≡ typing_read names text
        unfolding typing_read read_typing answer_of answered added
        line_more left = sym (ap answer_of (on_more (judge_line names) 15 14 untyped r.on sought here (judged_is (ap (answered r.said) ending)) left))
