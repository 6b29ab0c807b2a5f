-- A typing text is read exactly when it is spelt so.
use Rattle.std.specs.Prelude.{ℕ, suc, ◌≤◌, Bool, true, ◌↔◌, ◌≡◌, length}
use Rattle.std.proofs.Math.Bool.{◌&&◌, and-eq-true_iff}
use mathlib.Core.List.{List, [], ◌∷◌, ◌++◌, map, append_assoc, append-nil}
use Rattle.std.proofs.Math.Path.{refl, sym, ap, ap₂, subst⁻¹}
use Rattle.std.proofs.Common.{subst, ◌∙◌, length-append, arith}
use Rattle.std.proofs.lemmas.List.{length-map}
use Rattle.roles.specs.declared.RoleSet.{RoleSet}
use Rattle.tables.specs.declared.Name.{Name}
use Rattle.tables.specs.Names.{packed}
use Rattle.text.specs.Forms.{bytes, every, is_name}
use Rattle.walking.specs.Texts.{goes, read}
use Rattle.reading.specs.Policy.{Said, read_policy}
use Rattle.reading.specs.Sound.{read_sound}
use Rattle.steps.specs.Places.{At, here, there}
use Rattle.steps.proofs.PlaceLaws.{at_inside}
use Rattle.typings.specs.TypingText.{Typed, untyped, headed, rowed, judge_line, read_typing}
use Rattle.rereading.specs.Cuts.{free}
use Rattle.spelt.specs.Names.{Names}
use Rattle.spelt.specs.Policies.{roles-packed}
use Rattle.spelt.specs.Lines.{ended}
use Rattle.spelt.specs.LinesExact.{Lead, last, onward, InLines, lead_opened, lines_exact}
use Rattle.spelt.specs.Typing.{Row, Rows, none, row, TypingSpelt}
use Rattle.spelt.specs.TypingLines.{Adds, first, another, goes_adds, ends_end, adds_goes, end_ends, row_clear}

-- what stands where some names end is the next name
seam : (done : List (List ℕ)) (next : List ℕ) (rest : List (List ℕ)) {name : List ℕ} {place : ℕ} → place ≡ length done → At name (done ++ (next ∷ rest)) place → name ≡ next
seam [] next rest is here = refl
seam [] next rest is (there at) = absurd (omega arith)
seam (x ∷ done) next rest is here = absurd (omega arith)
seam (x ∷ done) next rest is (there at) = seam done next rest (omega arith) at

seam_at : (done : List (List ℕ)) (name : List ℕ) (rest : List (List ℕ)) → At name (done ++ (name ∷ rest)) (length done)
seam_at [] name rest = here
seam_at (x ∷ done) name rest = there (seam_at done name rest)

-- a typing with the rows of some roles more
unfoldable extended : ℕ → Typed → List Bool → List RoleSet → List RoleSet → Typed
extended count s labels plus minus = record { stage = count; labels = s.labels ++ labels; plus = s.plus ++ plus; minus = s.minus ++ minus }

-- no more rows, and one row before others
extended_none : (s : Typed) {count : ℕ} → s.stage ≡ count → s ≡ extended count s [] [] []
unfolding extended
extended_none s all = λ i. record { stage = all i; labels = sym (append-nil s.labels) i; plus = sym (append-nil s.plus) i; minus = sym (append-nil s.minus) i }

extended_more : (count : ℕ) (s : Typed) (label : Bool) (plus minus : RoleSet) (labels : List Bool) (pluses minuses : List RoleSet)
    → extended count (rowed s label plus minus) labels pluses minuses ≡ extended count s (label ∷ labels) (plus ∷ pluses) (minus ∷ minuses)
unfolding extended
extended_more count s label plus minus labels pluses minuses = λ i. record {
  stage = count;
  labels = append_assoc s.labels (label ∷ []) labels i;
  plus = append_assoc s.plus (plus ∷ []) pluses i;
  minus = append_assoc s.minus (minus ∷ []) minuses i;
}

module _ {names : List (List ℕ)} (all : Names names) (few : length names ≤ 128) where
  -- ---- what is read is spelt so

  -- the lines of the roles that are left, and `end`
  record Left (s : Typed) (rest lines : List (List ℕ)) (t : Typed) : Type 0 where
    labels : List Bool
    plus : List RoleSet
    minus : List RoleSet
    rows : List (List ℕ)
    are : lines ≡ rows ++ (bytes "end" ∷ [])
    says : Rows names rest labels plus minus rows
    leads : t ≡ extended (suc (length names)) s labels plus minus

  rows_left : (done rest : List (List ℕ)) → names ≡ done ++ rest → {s t : Typed} {lines : List (List ℕ)} → s.stage ≡ suc (length done) → Lead (judge_line (map packed names)) s lines t → Left s rest lines t
  rows_left done [] parts at (last {s} is) =
      let e = ends_end all few is in
      record {
        labels = [];
        plus = [];
        minus = [];
        rows = [];
        are = ap (λ (l : List ℕ). l ∷ []) e.is;
        says = none;
        leads = extended_none s e.after;
      }
  rows_left done (next ∷ rest) parts at (last is) = absurd (omega (arith, (ends_end all few is).after, at, ap length parts, length-append done (next ∷ rest)))
  rows_left done [] parts at (onward {s} good below) = absurd (past (goes_adds all few good))
    where
      past : {line : List ℕ} {t : Typed} → Adds names s line t → ⊥
      past (first start) = omega arith
      past (another stage stands said) = omega (arith, at_inside stands, ap length parts, length-append done [])
  rows_left done (next ∷ rest) parts at (onward {s} {t} {u} {line} {lines} good below) =
      go (goes_adds all few good) (λ stage. rows_left (done ++ (next ∷ [])) rest (parts ∙ sym (append_assoc done (next ∷ []) rest)) stage below)
    where
      go : {l : List ℕ} {v : Typed} → Adds names s l v → (v.stage ≡ suc (length (done ++ (next ∷ []))) → Left v rest lines u) → Left s (next ∷ rest) (l ∷ lines) u
      go (first start) more = absurd (omega arith)
      go (another {place} {name} {line = l} {label} {plus} {minus} stage stands said) more =
          let own = seam done next rest (omega arith) (subst (λ (k : List (List ℕ)). At name k place) parts stands) in
          let left = more (omega (arith, length-append done (next ∷ []))) in
          record {
            labels = label ∷ left.labels;
            plus = plus ∷ left.plus;
            minus = minus ∷ left.minus;
            rows = l ∷ left.rows;
            are = ap (λ (k : List (List ℕ)). l ∷ k) left.are;
            says = row (subst (λ (n : List ℕ). Row names n label plus minus l) own said) left.says;
            leads = left.leads ∙ extended_more (suc (length names)) s label plus minus left.labels left.plus left.minus;
          }

  -- before the first line only the header is good
  header_first : (s : Typed) → s.stage ≡ 0 → (line : List ℕ) (t : Typed) → judge_line (map packed names) s line ≡ goes t → (line ≡ bytes "typing\t1") × (t ≡ headed s)
  header_first s start line t good = go (goes_adds all few good)
    where
      go : {l : List ℕ} {v : Typed} → Adds names s l v → (l ≡ bytes "typing\t1") × (v ≡ headed s)
      go (first begun) = (refl, refl)
      go (another stage stands said) = absurd (omega arith)

  lead_spelt : {text : List ℕ} {t : Typed} → length text ≤ 32768 → InLines (judge_line (map packed names)) untyped text t → TypingSpelt names text t
  unfolding untyped extended
  lead_spelt {text} {t} short whole =
      let opened = lead_opened (judge_line (map packed names)) (bytes "typing\t1") (headed untyped) (λ line is. omega (arith, (ends_end all few is).after)) (header_first untyped refl) whole.lead in
      let left = rows_left [] names refl refl opened.lead in
      record {
        short = short;
        rows = left.rows;
        lines = whole.are ∙ ap ended opened.are ∙ ap (λ (l : List (List ℕ)). ended (bytes "typing\t1" ∷ l)) left.are;
        says = subst⁻¹ (λ (x : Typed). Rows names names x.labels x.plus x.minus left.rows) left.leads left.says;
        counted = ap (λ (x : Typed). x.stage) left.leads;
      }

  -- ---- what is spelt so is read

  -- the lines of the roles that are left lead on
  rows_lead : (done : List (List ℕ)) {rest lines : List (List ℕ)} {labels : List Bool} {plus minus : List RoleSet} → names ≡ done ++ rest → (s : Typed) → s.stage ≡ suc (length done) → Rows names rest labels plus minus lines
      → Lead (judge_line (map packed names)) s (lines ++ (bytes "end" ∷ [])) (extended (suc (length names)) s labels plus minus)
  rows_lead done parts s at none =
      let after : s.stage ≡ suc (length names) = omega (arith, ap length parts, length-append done []) in
      subst (Lead (judge_line (map packed names)) s (bytes "end" ∷ []))
      (extended_none s after)
      (last (end_ends all few (record { is = refl; after = after })))
  rows_lead done parts s at (row {name} {line} {label} {plus} {minus} {rest} {lines} {labels} {pluses} {minuses} said below) =
      let stands = subst⁻¹ (λ (l : List (List ℕ)). At name l (length done)) parts (seam_at done name rest) in
      let next = rowed s label plus minus in
      onward (adds_goes all few (another at stands said))
      (subst (Lead (judge_line (map packed names)) next (lines ++ (bytes "end" ∷ [])))
      (extended_more (suc (length names)) s label plus minus labels pluses minuses)
      (rows_lead (done ++ (name ∷ [])) (parts ∙ sym (append_assoc done (name ∷ []) rest)) next (omega (arith, length-append done (name ∷ []))) below))

  -- no line has an LF within
  pub rows_clear : {rest lines : List (List ℕ)} {labels : List Bool} {plus minus : List RoleSet} → every is_name rest ≡ true → Rows names rest labels plus minus lines → every (free 10) (lines ++ (bytes "end" ∷ [])) ≡ true
  unfolding every free
  rows_clear forms none = refl
  rows_clear forms (row {name} {rest = rest} said below) =
      let parts = (and-eq-true_iff (is_name name) (every is_name rest)).0 forms in
      ap₂ ◌&&◌ (row_clear all few parts.0 said) (rows_clear parts.1 below)

  spelt_lead : {text : List ℕ} {t : Typed} → TypingSpelt names text t → InLines (judge_line (map packed names)) untyped text t
  unfolding untyped extended every free
  spelt_lead {text} {t} spelt = record {
    lines = bytes "typing\t1" ∷ (spelt.rows ++ (bytes "end" ∷ []));
    are = spelt.lines;
    clear = rows_clear all.forms spelt.says;
    lead = onward (adds_goes all few (first refl))
        (subst (Lead (judge_line (map packed names)) (headed untyped) (spelt.rows ++ (bytes "end" ∷ [])))
        (λ i. record { stage = sym spelt.counted i; labels = t.labels; plus = t.plus; minus = t.minus })
        (rows_lead [] refl (headed untyped) refl spelt.says));
  }

  -- A typing text is read over names exactly when it is spelt so.
  pub typing_spelt : (text : List ℕ) (t : Typed) → read_typing (map packed names) text ≡ read t ↔ TypingSpelt names text t
  unfolding read_typing
  typing_spelt text t =
      let exact = lines_exact (judge_line (map packed names)) 15 14 untyped text t in
      (λ is. lead_spelt (exact.0 is).0 (exact.0 is).1, λ spelt. exact.1 (spelt.short, spelt_lead spelt))

-- So over the role names of a policy that is read.
pub policy_typing_spelt : (policy : List ℕ) {s : Said} (reads : read_policy policy ≡ read s) (text : List ℕ) (t : Typed) → read_typing s.roles text ≡ read t ↔ TypingSpelt (roles-packed policy reads).names text t
policy_typing_spelt policy {s} reads text t =
    let table = roles-packed policy reads in
    let few : length table.names ≤ 128 = omega (arith, (read_sound policy reads).roles.most, ap length table.packing, length-map table.names packed) in
    subst⁻¹ (λ (names : List Name). read_typing names text ≡ read t ↔ TypingSpelt table.names text t) table.packing (typing_spelt table.are few text t)
