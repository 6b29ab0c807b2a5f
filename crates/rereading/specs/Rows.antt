-- The lines of a typing that is written: the header, a row and `end`, each judged as what it was written from.
use Rattle.std.specs.Prelude.{ℕ, suc, ◌+◌, ◌<◌, Bool, true, false, cond, ◌||◌, List, [], ◌∷◌, ◌++◌, ◌≡◌, refl, length, Ok}
use Rattle.std.proofs.lemmas.Bool.{false≢true}
use Rattle.std.proofs.Common.{append_assoc, sym, ap, ◌∙◌, add-one, arith}
use borrow.Author.Tests.{le-leb, eq-eqb}
use Rattle.roles.specs.declared.RoleSet.{RoleSet}
use Rattle.tables.specs.declared.Name.{Name}
use Rattle.text.specs.Forms.{bytes, every, between, name_byte, is_name, is_label}
use Rattle.tables.specs.Names.{place_of}
use Rattle.text.specs.Pieces.{split, onto, same_bytes}
use Rattle.text.specs.PieceLaws.{same_equal}
use Rattle.fields.specs.Fields.{placed}
use Rattle.writing.specs.Written.{spelled}
use Rattle.spelling.specs.TypingText.{set_text, label_text}
use Rattle.typings.specs.declared.TypingEntry.{TypingEntry}
use Rattle.typings.specs.TypingLines.{row, one_field, two_fields, line_of, well_formed, named, entry, judged, typing_line}
use Rattle.rereading.specs.Cuts.{free, cut_first, cut_last, free_join, free_name}
use Rattle.rereading.specs.Joined.{Apart}
use Rattle.tables.specs.Named.{Spelt, Named}
use Rattle.rereading.specs.Standing.{spelled_form, spelled-placed}
use Rattle.fields.specs.Roles.{Inside}
use Rattle.rereading.specs.Sets.{set_form, set_declared, set_free, set_back}

-- neither a tab nor LF stands in a field
pub tab : Apart 9
unfolding name_byte between free every
tab = record { letter = refl; comma = refl; dash = refl }

pub newline : Apart 10
unfolding name_byte between free every
newline = record { letter = refl; comma = refl; dash = refl }

-- four fields with tabs between them
four_cut : (a b c d : List ℕ) → free 9 a ≡ true → free 9 b ≡ true → free 9 c ≡ true → free 9 d ≡ true → split 9 (a ++ bytes "\t" ++ b ++ bytes "\t" ++ c ++ bytes "\t" ++ d) ≡ a ∷ b ∷ c ∷ d ∷ []
four_cut a b c d no-a no-b no-c no-d =
    simp append_assoc
    (cut_first 9 a (b ++ (bytes "\t" ++ (c ++ (bytes "\t" ++ d)))) no-a
    ∙ ap (λ (l : List (List ℕ)). a ∷ l)
    (cut_first 9 b (c ++ (bytes "\t" ++ d)) no-b ∙ ap (λ (l : List (List ℕ)). b ∷ l) (cut_first 9 c d no-c ∙ ap (λ (l : List (List ℕ)). c ∷ l) (cut_last 9 d no-d))))

-- a text and a tab after it, without LF
free-tab : (s : List ℕ) → free 10 s ≡ true → free 10 (s ++ bytes "\t") ≡ true
unfolding free every
free-tab s none = free_join 10 s (bytes "\t") none refl

-- ---- the label

-- it is a name as well, so that no mark stands in it
pub label_name : (label : Bool) → is_name (label_text label) ≡ true
unfolding label_text is_name every name_byte between
label_name true = refl
label_name false = refl

-- it is a label, and is read back
pub label_form : (label : Bool) → is_label (label_text label) ≡ true
unfolding label_text is_label same_bytes
label_form true = refl
label_form false = refl

pub label_back : (label : Bool) → same_bytes (label_text label) (bytes "H") ≡ label
unfolding label_text same_bytes
label_back true = refl
label_back false = refl

-- a label is written again
pub label_same : (label : List ℕ) → is_label label ≡ true → label_text (same_bytes label (bytes "H")) ≡ label
unfolding is_label label_text
label_same label is = go (same_bytes label (bytes "L")) (same_bytes label (bytes "H")) refl refl is
  where
    go : (low high : Bool) → same_bytes label (bytes "L") ≡ low → same_bytes label (bytes "H") ≡ high → (low || high) ≡ true → cond high (bytes "H") (bytes "L") ≡ label
    go low true same other one = sym (same_equal label (bytes "H") other)
    go true false same other one = sym (same_equal label (bytes "L") same)
    go false false same other one = absurd (false≢true one)

-- ---- the header and the end

-- The header is good before the first line,
pub header_good : (names : List Name) → typing_line 0 names (bytes "typing\t1") ≡ Ok TypingEntry.Header
unfolding typing_line judged line_of split onto two_fields same_bytes well_formed named entry
header_good names = refl

-- and `end` after a row for each name.
pub end_good : (names : List Name) → typing_line (suc (length names)) names (bytes "end") ≡ Ok TypingEntry.End
unfolding typing_line judged line_of split onto one_field same_bytes well_formed named entry
end_good names = rw (eq-eqb (suc (length names)) (length names + 1) (sym (add-one (length names))))

-- ---- the row

-- its line, without the LF
unfoldable pub line_text : List Name → Name → Bool → (plus minus : RoleSet) → List ℕ
line_text names name label plus minus = spelled name ++ bytes "\t" ++ label_text label ++ bytes "\t" ++ set_text names plus ++ bytes "\t" ++ set_text names minus

module _ {names : List Name} (all : Named names) {name : Name} (spelt : Spelt name) (label : Bool) (plus minus : RoleSet) where
  -- a mark that is apart stands in none of its fields
  name_free : {mark : ℕ} → Apart mark → free mark (spelled name) ≡ true
  name_free {mark} apart = free_name mark (spelled name) apart.letter (spelled_form spelt)

  label_free : {mark : ℕ} → Apart mark → free mark (label_text label) ≡ true
  label_free {mark} apart = free_name mark (label_text label) apart.letter (label_name label)

  -- the fields that it was written from
  line_fields : split 9 (line_text names name label plus minus) ≡ spelled name ∷ label_text label ∷ set_text names plus ∷ set_text names minus ∷ []
  unfolding line_text
  line_fields = four_cut (spelled name) (label_text label) (set_text names plus) (set_text names minus) (name_free tab) (label_free tab) (set_free all plus tab) (set_free all minus tab)

  -- It is one line.
  pub line_free : free 10 (line_text names name label plus minus) ≡ true
  unfolding line_text
  line_free =
      let first = free_join 10 _ (label_text label) (free-tab (spelled name) (name_free newline)) (label_free newline) in
      let second = free_join 10 _ (set_text names plus) (free-tab _ first) (set_free all plus newline) in
      free_join 10 _ (set_text names minus) (free-tab _ second) (set_free all minus newline)

  -- it is well formed, and has its role's name and declared roles
  row_formed : {role : ℕ} → role < length names → well_formed (suc role) (length names) (row (spelled name) (label_text label) (set_text names plus) (set_text names minus)) ≡ true
  unfolding well_formed
  row_formed {role} here =
      rw (le-leb 1 (suc role) (omega arith), le-leb (suc role) (length names) here, spelled_form spelt, label_form label, set_form all plus, set_form all minus)

  row_named : {role : ℕ} → place_of names name ≡ role → named (suc role) names (row (spelled name) (label_text label) (set_text names plus) (set_text names minus)) ≡ true
  unfolding named
  row_named {role} at =
      rw (eq-eqb (placed names (spelled name) + 1) (suc role) (omega (arith, spelled-placed names spelt, at)), set_declared all plus, set_declared all minus)

  -- It is good at its role's place, and says what it was written from.
  pub row_good : {role : ℕ} → role < length names → place_of names name ≡ role → Inside (length names) plus → Inside (length names) minus
      → typing_line (suc role) names (line_text names name label plus minus) ≡ Ok (TypingEntry.Row label plus minus)
  unfolding typing_line judged line_of entry
  row_good {role} here at inside_plus inside_minus =
      rw (line_fields, row_formed here, row_named at, label_back label, set_back all plus inside_plus, set_back all minus inside_minus)
