-- The pinned names are counted in the bytes.
use Prim.Native.Nat.{ℕ, suc, ◌+◌, ◌-◌, ◌≤◌}
use Rattle.std.specs.Prelude.{Bool, true, false, ◌↔◌, ◌≡◌, length, get_or, replicate}
use Rattle.std.proofs.Math.Bool.{and-eq-true_iff, false≢true}
use mathlib.Core.List.Memᴰ.{head as first}
use mathlib.Core.List.Memᴰ.{not-nil}
use mathlib.Core.List.Memᴰ.{tail as next}
use mathlib.Core.List.{List, [], ◌∷◌, ◌++◌, map, Memᴰ as Listed}
use Rattle.std.proofs.Math.Path.{refl, sym, ap, ap₂, subst}
use Rattle.std.proofs.Common.{◌∙◌, arith}
use Rattle.std.proofs.lemmas.List.{length-map}
use Rattle.roles.specs.declared.RoleSet.{RoleSet}
use Rattle.roles.specs.Sets.{empty_set, has_role, without_of}
use Rattle.roles.specs.Words.{tally, tally_same}
use Rattle.roles.specs.Members.{◌∈◌}
use Rattle.roles.specs.MemberLaws.{absent_test, has_empty, without_old, without_gone, without_other, tally-without}
use Rattle.tables.specs.declared.Name.{Name}
use Rattle.tables.specs.Names.{packed}
use Rattle.text.specs.Forms.{bytes, every, is_name, names_of}
use Rattle.text.specs.Pieces.{split, onto, among, repeated}
use Rattle.text.specs.PieceLaws.{neither}
use Rattle.walking.specs.Texts.{read}
use Rattle.reading.specs.Policy.{Said, read_policy}
use Rattle.tables.specs.Padded.{padded}
use Rattle.reading.specs.Sound.{read_sound}
use Rattle.typings.specs.TypingText.{Typed, read_typing, table_of}
use Rattle.steps.specs.Places.{At}
use Rattle.steps.proofs.PlaceLaws.{at_stands, at_listed, listed_at}
use Rattle.judging.specs.Verdict.{pinned_names}
use Rattle.judging.proofs.PinnedLaws.{members_of, members_more, members_none, empty_members, pinned_members}
use Rattle.verdicts.specs.TypingLaid.{read_laid}
use Rattle.rereading.specs.Cuts.{free, cut_first}
use Rattle.spelt.specs.Names.{Names, RoleOf}
use Rattle.spelt.specs.NamesExact.{listed-among, listed_passes, placed_exact}
use Rattle.spelt.specs.Policies.{roles-packed}
use Rattle.spelt.specs.Lines.{ended}
use Rattle.spelt.specs.Sets.{SetSpelt}
use Rattle.spelt.specs.SetsExact.{written-names}
use Rattle.spelt.specs.Typing.{Rows, none, row, TypingSpelt}
use Rattle.spelt.specs.TypingLines.{row_fields}
use Rattle.spelt.specs.TypingExact.{typing_spelt, rows_clear}
use Rattle.spelt.specs.Pinned.{field_names, line_names, names_in}

-- ---- a set has as many members as names are written

-- one name stands at a place, and a name at one place
same_name : {s t : List ℕ} {names : List (List ℕ)} {place other : ℕ} → place ≡ other → At s names place → At t names other → s ≡ t
same_name {s} {names = names} same at to = sym (at_stands s at) ∙ ap (λ (k : ℕ). get_or names k s) same ∙ at_stands s to

module _ {names : List (List ℕ)} (all : Names names) where
  same_place : {s : List ℕ} {place other : ℕ} → At s names place → At s names other → place ≡ other
  same_place {place = place} {other = other} at to =
      let form = listed_passes is_name all.forms (at_listed at) in
      sym ((placed_exact all form place).1 at).0 ∙ ((placed_exact all form other).1 to).0

  written_counted : (written : List (List ℕ)) (set : RoleSet) → repeated written ≡ false → ((name : List ℕ) → Listed name written → Listed name names) → ((role : ℕ) → role ∈ set ↔ RoleOf names written role)
      → tally 128 (has_role set) ≡ length written
  unfolding repeated
  written_counted [] set single declared roles =
      tally_same 128 (has_role set) (has_role empty_set) (λ role low. absent_test (λ found. not-nil ((roles role).0 found).is_written_lem) ∙ sym (has_empty role)) ∙ empty_members
  written_counted (q ∷ rest) set single declared roles =
      let place = one.0 in
      let alone = neither (among q rest) (repeated rest) single in
      let own : place ∈ set = (roles place).1 (record { name = q; stands = one.1; is_written_lem = first refl }) in
      sym (tally-without set place own.found)
      ∙ ap suc (written_counted rest (without_of set place) alone.1 (λ name m. declared name (next m)) (λ role. (
        λ found. other role found ((roles role).0 (without_old set place found)),
        λ named. without_other place ((roles role).1 (record { name = named.name; stands = named.stands; is_written_lem = next named.is_written_lem }))
            (λ same. false≢true (sym alone.0 ∙ subst (λ (s : List ℕ). among s rest ≡ true) (same_name same named.stands one.1) (listed-among named.is_written_lem))),
      )))
    where
      one : (place : ℕ) × At q names place
      one = listed_at (declared q (first refl))

      other : (role : ℕ) → role ∈ without_of set one.0 → RoleOf names (q ∷ rest) role → RoleOf names rest role
      other role found named = go named.stands named.is_written_lem
        where
          go : {name : List ℕ} → At name names role → Listed name (q ∷ rest) → RoleOf names rest role
          go stands (first e) =
              absurd (without_gone set one.0 (subst (λ (k : ℕ). k ∈ without_of set one.0) (same_place (subst (λ (s : List ℕ). At s names role) e stands) one.1) found))
          go {name} stands (next m) = record { name = name; stands = stands; is_written_lem = m }

-- ---- the lines

lines_more : (lines others : List (List ℕ)) → line_names (lines ++ others) ≡ line_names lines + line_names others
unfolding line_names
lines_more [] others = omega arith
lines_more (line ∷ lines) others = omega (arith, lines_more lines others)

-- the pieces between LFs are the lines, and nothing after the last
ended_lines : (lines : List (List ℕ)) → every (free 10) lines ≡ true → split 10 (ended lines) ≡ lines ++ ([] ∷ [])
unfolding ended every split
ended_lines [] clear = refl
ended_lines (line ∷ lines) clear =
    let parts = (and-eq-true_iff (free 10 line) (every (free 10) lines)).0 clear in
    cut_first 10 line (ended lines) parts.0 ∙ ap (λ (l : List (List ℕ)). line ∷ l) (ended_lines lines parts.1)

module _ {names : List (List ℕ)} (all : Names names) (few : length names ≤ 128) where
  -- a set field has as many names as its set has members
  set_counted : {field : List ℕ} {set : RoleSet} → SetSpelt names field set → length (names_of field) ≡ tally 128 (has_role set)
  set_counted {set = set} spelt = ap length (written-names all few spelt) ∙ sym (written_counted all spelt.written set spelt.single spelt.declared spelt.roles)

  -- so have the rows
  rows_counted : {rest lines : List (List ℕ)} {labels : List Bool} {plus minus : List RoleSet} → every is_name rest ≡ true → Rows names rest labels plus minus lines → line_names lines ≡ members_of plus + members_of minus
  unfolding line_names members_of every field_names
  rows_counted forms none = refl
  rows_counted forms (row {name} {line} {label} {plus} {minus} {rest} {lines} {labels} {pluses} {minuses} said below) =
      let parts = (and-eq-true_iff (is_name name) (every is_name rest)).0 forms in
      let here : field_names (split 9 line) ≡ tally 128 (has_role plus) + tally 128 (has_role minus) = ap field_names (row_fields all few parts.0 said) ∙ ap₂ ◌+◌ (set_counted said.plus_spelt) (set_counted said.minus_spelt) in
      omega (arith, here, rows_counted parts.1 below)

  -- the header, `end` and what follows it have none
  text_counted : {text : List ℕ} {t : Typed} → TypingSpelt names text t → names_in text ≡ members_of t.plus + members_of t.minus
  unfolding names_in line_names field_names split onto every free
  text_counted {text} {t} spelt =
      let lines = spelt.rows ++ (bytes "end" ∷ []) in
      let cut = ap (split 10) spelt.lines ∙ ended_lines (bytes "typing\t1" ∷ lines) (rows_clear all few all.forms spelt.says) in
      omega (arith, ap line_names cut, lines_more lines ([] ∷ []), lines_more spelt.rows (bytes "end" ∷ []), rows_counted all.forms spelt.says)

-- the sets of a typing that is laid out have the members of its rows
laid_members : (sets : List RoleSet) → members_of (padded 128 empty_set sets) ≡ members_of sets
unfolding padded
laid_members sets = omega (arith, members_more sets (replicate (128 - length sets) empty_set), members_none (128 - length sets))

-- Of a typing text that is read over names, pinned is the number of names in its plus and minus fields.
pub pinned_names_lem : {names : List (List ℕ)} → Names names → length names ≤ 128 → (text : List ℕ) {t : Typed} → read_typing (map packed names) text ≡ read t → pinned_names (table_of t) (length names) ≡ names_in text
unfolding table_of
pinned_names_lem {names} all few text {t} is =
    let table = map packed names in
    let many = length-map names packed in
    ap (pinned_names (table_of t)) (sym many)
    ∙ pinned_members (table_of t) (read_laid table text is (omega (arith, many)))
    ∙ ap₂ ◌+◌ (laid_members t.plus) (laid_members t.minus)
    ∙ sym (text_counted all few ((typing_spelt all few text t).0 is))

-- So over the role names of a policy that is read.
pub pinned_counts : (policy : List ℕ) {s : Said} → read_policy policy ≡ read s → (text : List ℕ) {t : Typed} → read_typing s.roles text ≡ read t → pinned_names (table_of t) (length s.roles) ≡ names_in text
pinned_counts policy {s} reads text {t} is =
    let table = roles-packed policy reads in
    let many = ap length table.packing ∙ length-map table.names packed in
    ap (pinned_names (table_of t)) many
    ∙ pinned_names_lem table.are (omega (arith, (read_sound policy reads).roles.most, many)) text (subst (λ (names : List Name). read_typing names text ≡ read t) table.packing is)
