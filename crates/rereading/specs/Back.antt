-- A typing that fits the names of a policy is read back from its own text.
use Prim.Native.Nat.{ℕ, suc, ◌≤◌, ◌<◌}
use Rattle.std.specs.Prelude.{true, ◌≡◌, length, get_or, take}
use mathlib.Core.List.{List, [], ◌∷◌, ◌++◌, append_assoc, Memᴰ as Listed}
use Rattle.std.proofs.Math.Path.{refl, sym, ap, subst⁻¹}
use Rattle.std.proofs.Common.{◌∙◌, take-suc, arith}
use Rattle.std.proofs.Math.Seq.{take_all}
use Rattle.roles.specs.declared.RoleSet.{RoleSet}
use Rattle.roles.specs.Sets.{empty_set}
use Rattle.model.specs.Policy.{L}
use Rattle.model.specs.Typing.{Typing}
use Rattle.model.specs.Meaning.{meaning}
use Rattle.tables.specs.declared.Name.{Name}
use Rattle.text.specs.Forms.{bytes, every}
use Rattle.tables.specs.Names.{place_of}
use Rattle.text.specs.Pieces.{split}
use Rattle.walking.specs.Texts.{Judged, goes, ends, read, read_lines}
use Rattle.walking.specs.TextLaws.{lines_next, onward_goes, onward_ends, closing_none, text_fits}
use Rattle.steps.proofs.PlaceLaws.{stands_at, at_listed}
use Rattle.spelling.specs.TypingText.{row_text, rows_text, typing_text}
use Rattle.typings.specs.TypingLines.{typing_line}
use Rattle.typings.specs.TypingText.{Typed, untyped, added, answered, judge_line, read_typing, table_of}
use Rattle.verdicts.specs.TypingLaid.{label_read, plus_read, minus_read}
use Rattle.rereading.specs.Cuts.{free, cut_first}
use Rattle.tables.specs.Named.{Spelt, Named}
use Rattle.rereading.specs.Standing.{Standing, none, more, standing, to_end}
use Rattle.rereading.specs.Fits.{Fits}
use Rattle.fields.specs.Roles.{Inside}
use Rattle.rereading.specs.Rows.{header_good, end_good, line_text, line_free, row_good}

-- ---- a line that is written with its LF, as a reader finds it

module _ {S : Type 0} (judge : S → List ℕ → Judged S) (malformed : ℕ) (s : S) (number : ℕ) (line : List ℕ) (unbroken : free 10 line ≡ true) where
  -- A line that adds leads to the lines below it,
  pub line_goes : {t : S} (rest : List ℕ) → judge s line ≡ goes t → read_lines judge malformed s number (split 10 (line ++ (10 ∷ rest))) ≡ read_lines judge malformed t (suc number) (split 10 rest)
  line_goes rest good =
      lines_next judge malformed s number rest (cut_first 10 line rest unbroken)
      ∙ onward_goes judge malformed s number (split 10 rest) (λ t. read_lines judge malformed t (suc number) (split 10 rest)) good

  -- and `end` with nothing below it to what was read.
  pub line_ends : judge s line ≡ ends → read_lines judge malformed s number (split 10 (line ++ (10 ∷ []))) ≡ read s
  line_ends good =
      lines_next judge malformed s number [] (cut_first 10 line [] unbroken)
      ∙ onward_ends judge malformed s number (split 10 []) (λ t. read_lines judge malformed t (suc number) (split 10 [])) good
      ∙ closing_none judge malformed s (suc number) [] refl

-- ---- the rows, one by one

-- the first rows of a typing
unfoldable up_to : ℕ → Typed → Typed
up_to rows t = record { stage = suc rows; labels = take rows t.labels; plus = take rows t.plus; minus = take rows t.minus }

-- a set that stands in a list of sets is inside what all are
inside_at : (roles role : ℕ) (sets : List RoleSet) {set : RoleSet} → ((s : RoleSet) → Listed s sets → Inside roles s) → role < length sets → set ≡ get_or sets role empty_set → Inside roles set
inside_at roles role sets each here is = subst⁻¹ (Inside roles) is (each (get_or sets role empty_set) (at_listed (stands_at empty_set sets role here)))

-- one row more in a column
column_more : {A : Type 0} (filling : A) (column : List A) (role : ℕ) {a : A} → role < length column → a ≡ get_or column role filling → take role column ++ (a ∷ []) ≡ take (suc role) column
column_more filling column role here is = ap (λ (x : _). take role column ++ (x ∷ [])) is ∙ sym (take-suc column role filling here)

-- what its arrays mean, role by role
abbrev meant : Typed → Typing
meant t = meaning (table_of t)

module _ {names : List Name} (all : Named names) {t : Typed} (fits : Fits names t) where
  -- all its rows are the typing
  all_rows : {rows : ℕ} → rows ≡ length names → up_to rows t ≡ t
  unfolding up_to
  all_rows {rows} last = λ i. record {
    stage = (ap suc last ∙ sym fits.stage) i;
    labels = take_all rows t.labels (omega (arith, fits.labels)) i;
    plus = take_all rows t.plus (omega (arith, fits.plus)) i;
    minus = take_all rows t.minus (omega (arith, fits.minus)) i;
  }

  -- a row that is written adds what it was written from
  row_goes : {role : ℕ} {name : Name} → Spelt name → place_of names name ≡ role → role < length names → judge_line names (up_to role t) (line_text names name ((meant t).label role) ((meant t).plus role) ((meant t).minus role)) ≡ goes (up_to (suc role) t)
  unfolding judge_line up_to answered added
  row_goes {role} {name} spelt at here =
      ap (answered (up_to role t)) (row_good all spelt ((meant t).label role) ((meant t).plus role) ((meant t).minus role) here at inside_plus inside_minus)
      ∙ (λ i. goes (record {
        stage = suc (suc role);
        labels = column_more L t.labels role (omega (arith, fits.labels)) (label_read t role) i;
        plus = column_more empty_set t.plus role (omega (arith, fits.plus)) (plus_read t role) i;
        minus = column_more empty_set t.minus role (omega (arith, fits.minus)) (minus_read t role) i;
      }))
    where
      inside_plus : Inside (length names) ((meant t).plus role)
      inside_plus = inside_at (length names) role t.plus fits.plus_inside (omega (arith, fits.plus)) (plus_read t role)

      inside_minus : Inside (length names) ((meant t).minus role)
      inside_minus = inside_at (length names) role t.minus fits.minus_inside (omega (arith, fits.minus)) (minus_read t role)

  -- `end` stands after all rows, and the header before the first
  end_ends : judge_line names t (bytes "end") ≡ ends
  unfolding judge_line answered added
  end_ends = ap (answered t) (ap (λ (k : ℕ). typing_line k names (bytes "end")) fits.stage ∙ end_good names)

  header_goes : judge_line names untyped (bytes "typing\t1") ≡ goes (up_to 0 t)
  unfolding judge_line answered added untyped up_to
  header_goes = ap (answered untyped) (header_good names)

  -- from a row on
  rows_back : (number : ℕ) {role : ℕ} {rest : List Name} → Standing names role rest → read_lines (judge_line names) 15 (up_to role t) number (split 10 (rows_text names (meant t) role rest ++ bytes "end\n")) ≡ read t
  unfolding rows_text row_text line_text free every
  rows_back number (none {role} last) =
      ap (λ (s : Typed). read_lines (judge_line names) 15 s number (split 10 (bytes "end\n"))) (all_rows last)
      ∙ line_ends (judge_line names) 15 t number (bytes "end") refl end_ends
  rows_back number (more {role} {name} {rest} spelt at below) =
      let line = line_text names name ((meant t).label role) ((meant t).plus role) ((meant t).minus role) in
      let rows = rows_text names (meant t) (suc role) rest in
      ap (λ (s : List ℕ). read_lines (judge_line names) 15 (up_to role t) number (split 10 s)) (ap (λ (s : List ℕ). s ++ bytes "end\n") (append_assoc line (bytes "\n") rows) ∙ append_assoc line (bytes "\n" ++ rows) (bytes "end\n"))
      ∙ line_goes (judge_line names) 15 (up_to role t) number line (line_free all spelt ((meant t).label role) ((meant t).plus role) ((meant t).minus role)) (rows ++ bytes "end\n") (row_goes spelt at (omega (arith, to_end below)))
      ∙ rows_back (suc number) below

-- A typing that is written reads back as itself.
pub reads_back : {names : List Name} {t : Typed} → Named names → Fits names t → length (typing_text names (table_of t)) ≤ 32768 → read_typing names (typing_text names (table_of t)) ≡ read t
unfolding read_typing typing_text free every
reads_back {names} {t} all fits short =
    text_fits (judge_line names) 15 14 untyped (typing_text names (table_of t)) short
    ∙ line_goes (judge_line names) 15 untyped 1 (bytes "typing\t1") refl (rows_text names (meant t) 0 names ++ bytes "end\n") (header_goes all fits)
    ∙ rows_back all fits 2 (standing all)
