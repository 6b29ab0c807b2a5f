-- The lines of a typing: each is judged good exactly when it is spelt so, after the lines above it.
use Prim.Native.Nat.{ℕ, suc, ◌+◌, ◌≤◌}
use Rattle.std.specs.Prelude.{Bool, false, cond, ◌&&◌, ◌||◌, ◌↔◌, ◌≡◌, eqb, Result}
use Rattle.std.proofs.Math.Bool.{true, and-eq-true_iff}
use Rattle.std.proofs.lemmas.Bool.{false≢true}
use Rattle.std.proofs.Common.{true≢false, sym, ◌∙◌, arith}
use mathlib.Core.List.{List, [], ◌∷◌, map}
use Rattle.std.proofs.Math.Path.{refl, ap, ap₂, subst, subst⁻¹}
use borrow.Author.Tests.{leb-true, le-leb, eqb-true, eq-eqb}
use Rattle.std.proofs.Math.Dec.{leb}
use Rattle.std.proofs.Math.ListN.{length, length-map}
use Rattle.std.proofs.Math.Numerals.{add-one}
use Rattle.roles.specs.declared.RoleSet.{RoleSet}
use Rattle.tables.specs.declared.Name.{Name}
use Rattle.tables.specs.Names.{packed}
use Rattle.text.specs.Forms.{bytes, every, is_name, is_label, is_set}
use Rattle.text.specs.Pieces.{split, onto, same_bytes, parted}
use Rattle.text.specs.PieceLaws.{same_equal, split-parted}
use Rattle.fields.specs.Fields.{placed, all_declared, roles_of}
use Rattle.walking.specs.Texts.{Judged, goes, ends, bad}
use Rattle.steps.specs.Places.{At}
use Rattle.steps.proofs.PlaceLaws.{at_listed}
use Rattle.spelling.specs.TypingText.{label_text}
use Rattle.walking.specs.declared.Fault.{Fault}
use Rattle.typings.specs.declared.TypingEntry.{TypingEntry}
use Rattle.typings.specs.TypingLineLaws.{tested_cases}
use Rattle.typings.specs.TypingLines.{Line, header, row, end, other, one_field, two_fields, line_of, well_formed, named, entry, judged, typing_line}
use Rattle.typings.specs.TypingText.{Typed, headed, rowed, added, answered, judge_line}
use Rattle.rereading.specs.Cuts.{free, free_name}
use Rattle.rereading.specs.Joined.{Apart, free_joined}
use Rattle.rereading.specs.Rows.{tab, newline, label_name, label_form, label_back, header_good, end_good}
use Rattle.spelt.specs.Names.{Names}
use Rattle.spelt.specs.NamesExact.{listed_passes, placed_exact}
use Rattle.spelt.specs.LinesExact.{parted-fields, parted-free}
use Rattle.spelt.specs.Sets.{SetSpelt}
use Rattle.spelt.specs.SetsExact.{set_read_lem, written_forms, set_form, set_declared, set_is}
use Rattle.spelt.specs.Typing.{Row}

-- ---- a line by its fields

-- which fields make which kind of line
pub data Kind : List (List ℕ) → Line → Type 0 where
  is_end : Kind (bytes "end" ∷ []) end
  is_header : {edition : List ℕ} → Kind (bytes "typing" ∷ edition ∷ []) (header edition)
  is_row : {name label plus minus : List ℕ} → Kind (name ∷ label ∷ plus ∷ minus ∷ []) (row name label plus minus)
  is_other : {fields : List (List ℕ)} → Kind fields other

kind : (fields : List (List ℕ)) → Kind fields (line_of fields)
unfolding line_of one_field two_fields
kind [] = is_other
kind (w ∷ []) = go (same_bytes w (bytes "end")) refl
  where
    go : (b : Bool) → same_bytes w (bytes "end") ≡ b → Kind (w ∷ []) (cond b end other)
    go true same = subst⁻¹ (λ (x : List ℕ). Kind (x ∷ []) end) (same_equal w (bytes "end") same) is_end
    go false same = is_other
kind (w ∷ a ∷ []) = go (same_bytes w (bytes "typing")) refl
  where
    go : (b : Bool) → same_bytes w (bytes "typing") ≡ b → Kind (w ∷ a ∷ []) (cond b (header a) other)
    go true same = subst⁻¹ (λ (x : List ℕ). Kind (x ∷ a ∷ []) (header a)) (same_equal w (bytes "typing") same) is_header
    go false same = is_other
kind (w ∷ a ∷ b ∷ []) = is_other
kind (w ∷ a ∷ b ∷ c ∷ []) = is_row
kind (w ∷ a ∷ b ∷ c ∷ d ∷ more) = is_other

-- A line is `end` by its fields exactly when its bytes are.
pub end_bytes : (line : List ℕ) → line_of (split 9 line) ≡ end ↔ line ≡ bytes "end"
unfolding line_of one_field split onto same_bytes parted
end_bytes line = (λ is. split-parted 9 line ∙ only (kind (split 9 line)) is, λ is. ap (λ (l : List ℕ). line_of (split 9 l)) is)
  where
    only : {fields : List (List ℕ)} {f : Line} → Kind fields f → f ≡ end → parted 9 fields ≡ bytes "end"
    only is_end e = refl
    only is_header e = absurd (true≢false (cc))
    only is_row e = absurd (true≢false (cc))
    only is_other e = absurd (true≢false (cc))

-- ---- what a good line says

-- A line adds: it is the header and the first line, or a row with its role's name at its place.
pub data Adds (names : List (List ℕ)) (s : Typed) : List ℕ → Typed → Type 0 where
  first : s.stage ≡ 0 → Adds names s (bytes "typing\t1") (headed s)
  another : {place : ℕ} {name line : List ℕ} {label : Bool} {plus minus : RoleSet} → s.stage ≡ suc place → At name names place → Row names name label plus minus line
      → Adds names s line (rowed s label plus minus)

-- A line ends: it is `end`, after a row for each name.
pub record Ends (names : List (List ℕ)) (s : Typed) (line : List ℕ) : Type 0 where
  pub is : line ≡ bytes "end"
  pub after : s.stage ≡ suc (length names)

-- a label is `L` or `H`
label_text_lem : (label : List ℕ) → is_label label ≡ true → label ≡ label_text (same_bytes label (bytes "H"))
unfolding is_label label_text
label_text_lem label form = go (same_bytes label (bytes "L")) (same_bytes label (bytes "H")) refl refl form
  where
    go : (l h : Bool) → same_bytes label (bytes "L") ≡ l → same_bytes label (bytes "H") ≡ h → (l || h) ≡ true → label ≡ label_text h
    go l true is-l is-h some = same_equal label (bytes "H") is-h
    go true false is-l is-h some = same_equal label (bytes "L") is-l
    go false false is-l is-h some = absurd (false≢true some)

module _ {names : List (List ℕ)} (all : Names names) (few : length names ≤ 128) where
  -- what a judgement says of a line
  Means : Typed → List ℕ → Judged Typed → Type 0
  Means s line (goes t) = Adds names s line t
  Means s line ends = Ends names s line
  Means s line (bad number) = Unit {0}

  -- a row that passes its tests
  row_adds : (s : Typed) {line : List ℕ} (name label plus minus : List ℕ) → line ≡ parted 9 (name ∷ label ∷ plus ∷ minus ∷ []) → well_formed s.stage (length (map packed names)) (row name label plus minus) ≡ true
      → named s.stage (map packed names) (row name label plus minus) ≡ true → Adds names s line (rowed s (same_bytes label (bytes "H")) (roles_of (map packed names) plus) (roles_of (map packed names) minus))
  unfolding well_formed named
  row_adds s {line} name label plus minus is formed known =
      let stage = s.stage in
      let table = map packed names in
      let sets = (and-eq-true_iff (((leb 1 stage && leb stage (length table)) && is_name name) && is_label label) (is_set plus && is_set minus)).0 formed in
      let both = (and-eq-true_iff (is_set plus) (is_set minus)).0 sets.1 in
      let labelled = (and-eq-true_iff ((leb 1 stage && leb stage (length table)) && is_name name) (is_label label)).0 sets.0 in
      let form = (and-eq-true_iff (leb 1 stage && leb stage (length table)) (is_name name)).0 labelled.0 in
      let most = leb-true stage (length table) ((and-eq-true_iff (leb 1 stage) (leb stage (length table))).0 form.0).1 in
      let own = (and-eq-true_iff (eqb (placed table name + 1) stage) (all_declared table plus && all_declared table minus)).0 known in
      let at = eqb-true (placed table name + 1) stage own.0 in
      let declared = (and-eq-true_iff (all_declared table plus) (all_declared table minus)).0 own.1 in
      another (sym at ∙ add-one (placed table name)) ((placed_exact all form.1 (placed table name)).0 (refl, omega (arith, at, most, length-map names packed))) (record {
        plus_field = plus;
        minus_field = minus;
        fields = is ∙ ap (λ (l : List ℕ). parted 9 (name ∷ l ∷ plus ∷ minus ∷ [])) (label_text_lem label labelled.1);
        plus_spelt = set_read_lem all few both.0 declared.0;
        minus_spelt = set_read_lem all few both.1 declared.1;
      })

  -- a line that is judged good is what it says
  line_means : (s : Typed) (line : List ℕ) → Means s line (judge_line (map packed names) s line)
  unfolding Means judge_line answered typing_line judged added entry well_formed parted
  line_means s line =
      tested_cases (λ (a : Result TypingEntry Fault). Means s line (answered s a)) _ _ _ (λ fault. tt) (λ formed known. go (kind (split 9 line)) (split-parted 9 line) formed known)
    where
      table : List Name
      table = map packed names

      go : {fields : List (List ℕ)} {f : Line} → Kind fields f → line ≡ parted 9 fields → well_formed s.stage (length table) f ≡ true → named s.stage table f ≡ true → Means s line (added s (entry table f))
      go is_end is formed known = record { is = is; after = eqb-true s.stage (length table + 1) formed ∙ add-one (length table) ∙ ap suc (length-map names packed) }
      go (is_header {edition}) is formed known =
          let parts = (and-eq-true_iff (eqb s.stage 0) (same_bytes edition (bytes "1"))).0 formed in
          subst⁻¹ (λ (l : List ℕ). Adds names s l (headed s)) (is ∙ ap (λ (e : List ℕ). parted 9 (bytes "typing" ∷ e ∷ [])) (same_equal edition (bytes "1") parts.1)) (first (eqb-true s.stage 0 parts.0))
      go (is_row {name} {label} {plus} {minus}) is formed known = row_adds s name label plus minus is formed known
      go is_other is formed known = absurd (false≢true formed)

  -- A line leads on only where it adds,
  pub goes_adds : {s t : Typed} {line : List ℕ} → judge_line (map packed names) s line ≡ goes t → Adds names s line t
  unfolding Means
  goes_adds {s} {t} {line} is = subst (Means s line) is (line_means s line)

  -- and ends only where it is `end`.
  pub ends_end : {s : Typed} {line : List ℕ} → judge_line (map packed names) s line ≡ ends → Ends names s line
  unfolding Means
  ends_end {s} {line} is = subst (Means s line) is (line_means s line)

  -- ---- a line that is spelt so is judged good

  -- the fields of a row have no byte that is apart from names, commas and dashes
  row_free : {name line : List ℕ} {label : Bool} {plus minus : RoleSet} {mark : ℕ} → Apart mark → is_name name ≡ true → (said : Row names name label plus minus line)
      → every (free mark) (name ∷ label_text label ∷ said.plus_field ∷ said.minus_field ∷ []) ≡ true
  unfolding every
  row_free {name} {label = label} {mark = mark} apart form said =
      rw (free_name mark name apart.letter form, free_name mark (label_text label) apart.letter (label_name label), set_free apart said.plus_spelt, set_free apart said.minus_spelt)
    where
      set_free : {mark : ℕ} → Apart mark → {field : List ℕ} {set : RoleSet} → SetSpelt names field set → free mark field ≡ true
      set_free {mark} apart spelt = ap (free mark) spelt.joining ∙ free_joined apart spelt.written (written_forms all few spelt)

  module _ {name line : List ℕ} {label : Bool} {plus minus : RoleSet} (form : is_name name ≡ true) (said : Row names name label plus minus line) where
    -- A row has the fields that it is spelt from,
    pub row_fields : split 9 line ≡ name ∷ label_text label ∷ said.plus_field ∷ said.minus_field ∷ []
    row_fields = ap (split 9) said.fields ∙ parted-fields 9 name (label_text label ∷ said.plus_field ∷ said.minus_field ∷ []) (row_free tab form said)

    -- and is one line.
    pub row_clear : free 10 line ≡ true
    unfolding free every
    row_clear = ap (free 10) said.fields ∙ parted-free 9 10 refl (name ∷ label_text label ∷ said.plus_field ∷ said.minus_field ∷ []) (row_free newline form said)

  -- A line that adds leads on,
  pub adds_goes : {s t : Typed} {line : List ℕ} → Adds names s line t → judge_line (map packed names) s line ≡ goes t
  unfolding judge_line answered added typing_line judged line_of entry well_formed named
  adds_goes {s} (first start) = ap (λ (k : ℕ). answered s (typing_line k (map packed names) (bytes "typing\t1"))) start ∙ ap (answered s) (header_good (map packed names))
  adds_goes {s} (another {place} {name} {line} {label} {plus} {minus} stage at said) =
      let table = map packed names in
      let form = listed_passes is_name all.forms (at_listed at) in
      let found = (placed_exact all form place).1 at in
      let most : suc place ≤ length table = omega (arith, found.1, length-map names packed) in
      rw (row_fields form said, stage, le-leb 1 (suc place) (omega arith), le-leb (suc place) (length table) most, form, label_form label, set_form all few said.plus_spelt, set_form all few said.minus_spelt, eq-eqb (placed table name + 1) (suc place) (omega (arith, found.0)), set_declared all few said.plus_spelt, set_declared all few said.minus_spelt, label_back label, set_is all few said.plus_spelt, set_is all few said.minus_spelt)

  -- and `end` ends.
  pub end_ends : {s : Typed} {line : List ℕ} → Ends names s line → judge_line (map packed names) s line ≡ ends
  unfolding judge_line answered added
  end_ends {s} e =
      ap₂ (λ (k : ℕ) (l : List ℕ). answered s (typing_line k (map packed names) l)) (e.after ∙ ap suc (sym (length-map names packed))) e.is ∙ ap (answered s) (end_good (map packed names))
