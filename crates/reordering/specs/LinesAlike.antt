-- A good line is like the line that is written of what it says; a has line is that line.
use Rattle.std.specs.Prelude.{ℕ, ◌≤◌, Bool, cond, ◌&&◌, ◌≡◌, eqb, length}
use Rattle.std.proofs.Math.Bool.{true, false, not, and-eq-true_iff, false≢true}
use mathlib.Core.List.{List, [], ◌∷◌}
use Rattle.std.proofs.Math.Path.{refl, sym, ap, ap₂, subst}
use Rattle.std.proofs.Common.{◌∙◌}
use Rattle.text.specs.Forms.{bytes, is_name, is_set, is_label}
use Rattle.text.specs.Pieces.{split, onto, same_bytes, parted}
use Rattle.text.specs.PieceLaws.{same_equal, split-parted}
use Rattle.tables.specs.declared.Name.{Name}
use Rattle.tables.specs.Named.{Named}
use Rattle.fields.specs.Fields.{is_declared, all_declared, roles_of}
use Rattle.lines.specs.declared.Counts.{Counts}
use Rattle.lines.specs.declared.Entry.{Entry}
use Rattle.lines.specs.Lines.{one_field, two_fields, three_fields, five_fields, line_of, asked, in_order, role_kind, user_kind, has_kind, assign_kind, revoke_kind, goal_kind}
use Rattle.lines.specs.Lines as kind
use Rattle.lines.specs.LineLaws.{GoodLine}
use Rattle.reading.specs.Policy.{Said, counts_of}
use Rattle.reading.specs.Sound.{Sound}
use Rattle.writing.specs.Spelling.{spelled-packed}
use Rattle.showing.specs.Fields.{field}
use Rattle.spelling.specs.TypingText.{label_text}
use Rattle.rereading.specs.Cuts.{free, free_name}
use Rattle.rereading.specs.Sets.{set_free}
use Rattle.rereading.specs.Rows.{tab, label_name, label_same}
use Rattle.inscribing.specs.LineText.{line_text}
use Rattle.reviewing.specs.Fields.{two_pieces, three_pieces, five_pieces}
use Rattle.reordering.specs.Alike.{Each, FieldAlike, LineAlike, HasLine}
use Rattle.reordering.specs.SetsAlike.{placed_name, field_same, set_alike}

-- ---- the fields of a line by its kind

unfoldable fields_of : kind.Line → List (List ℕ)
fields_of (kind.header edition) = bytes "arbac" ∷ edition ∷ []
fields_of (kind.role name) = bytes "role" ∷ name ∷ []
fields_of (kind.user name clearance) = bytes "user" ∷ name ∷ clearance ∷ []
fields_of (kind.has holder held) = bytes "has" ∷ holder ∷ held ∷ []
fields_of (kind.assign admin positive negative target) = bytes "assign" ∷ admin ∷ positive ∷ negative ∷ target ∷ []
fields_of (kind.revoke admin target) = bytes "revoke" ∷ admin ∷ target ∷ []
fields_of (kind.goal set) = bytes "goal" ∷ set ∷ []
fields_of kind.end = bytes "end" ∷ []
fields_of kind.other = []

module _ (c : Counts) (roles users : List Name) where
  -- what is asked of a line of no kind
  other_none : (asked c roles users kind.other).formed ≡ true → ⊥
  unfolding asked
  other_none formed = false≢true formed

  -- a word in front of fields
  worded : {word is : List ℕ} (fields : List (List ℕ)) → same_bytes word is ≡ true → word ∷ fields ≡ is ∷ fields
  worded {word} {is} fields same = ap (λ (l : List ℕ). l ∷ fields) (same_equal word is same)

  one_kind : (word : List ℕ) → (asked c roles users (one_field word)).formed ≡ true → word ∷ [] ≡ fields_of (one_field word)
  unfolding one_field fields_of
  one_kind word = go (same_bytes word (bytes "end")) refl
    where
      go : (b : Bool) → same_bytes word (bytes "end") ≡ b → (asked c roles users (cond b kind.end kind.other)).formed ≡ true → word ∷ [] ≡ fields_of (cond b kind.end kind.other)
      go true same formed = worded [] same
      go false same formed = absurd (other_none formed)

  two_kinds : (word a : List ℕ) → (asked c roles users (two_fields word a)).formed ≡ true → word ∷ a ∷ [] ≡ fields_of (two_fields word a)
  unfolding two_fields fields_of
  two_kinds word a = go (same_bytes word (bytes "role")) (same_bytes word (bytes "goal")) (same_bytes word (bytes "arbac")) refl refl refl
    where
      go : (r g h : Bool) → same_bytes word (bytes "role") ≡ r → same_bytes word (bytes "goal") ≡ g → same_bytes word (bytes "arbac") ≡ h
          → (asked c roles users (cond r (kind.role a) (cond g (kind.goal a) (cond h (kind.header a) kind.other)))).formed ≡ true
          → word ∷ a ∷ [] ≡ fields_of (cond r (kind.role a) (cond g (kind.goal a) (cond h (kind.header a) kind.other)))
      go true g h same goals headers formed = worded (a ∷ []) same
      go false true h roles-not same headers formed = worded (a ∷ []) same
      go false false true roles-not goals same formed = worded (a ∷ []) same
      go false false false roles-not goals headers formed = absurd (other_none formed)

  three_kinds : (word a b : List ℕ) → (asked c roles users (three_fields word a b)).formed ≡ true → word ∷ a ∷ b ∷ [] ≡ fields_of (three_fields word a b)
  unfolding three_fields fields_of
  three_kinds word a b = go (same_bytes word (bytes "has")) (same_bytes word (bytes "revoke")) (same_bytes word (bytes "user")) refl refl refl
    where
      go : (h r u : Bool) → same_bytes word (bytes "has") ≡ h → same_bytes word (bytes "revoke") ≡ r → same_bytes word (bytes "user") ≡ u
          → (asked c roles users (cond h (kind.has a b) (cond r (kind.revoke a b) (cond u (kind.user a b) kind.other)))).formed ≡ true
          → word ∷ a ∷ b ∷ [] ≡ fields_of (cond h (kind.has a b) (cond r (kind.revoke a b) (cond u (kind.user a b) kind.other)))
      go true r u same revokes users-not formed = worded (a ∷ b ∷ []) same
      go false true u has-not same users-not formed = worded (a ∷ b ∷ []) same
      go false false true has-not revokes same formed = worded (a ∷ b ∷ []) same
      go false false false has-not revokes users-not formed = absurd (other_none formed)

  five_kinds : (word a b d e : List ℕ) → (asked c roles users (five_fields word a b d e)).formed ≡ true → word ∷ a ∷ b ∷ d ∷ e ∷ [] ≡ fields_of (five_fields word a b d e)
  unfolding five_fields fields_of
  five_kinds word a b d e = go (same_bytes word (bytes "assign")) refl
    where
      go : (is : Bool) → same_bytes word (bytes "assign") ≡ is → (asked c roles users (cond is (kind.assign a b d e) kind.other)).formed ≡ true → word ∷ a ∷ b ∷ d ∷ e ∷ [] ≡ fields_of (cond is (kind.assign a b d e) kind.other)
      go true same formed = worded (a ∷ b ∷ d ∷ e ∷ []) same
      go false same formed = absurd (other_none formed)

  -- a line that has its form has the fields of its kind
  line_fields : (pieces : List (List ℕ)) → (asked c roles users (line_of pieces)).formed ≡ true → pieces ≡ fields_of (line_of pieces)
  unfolding line_of
  line_fields [] formed = absurd (other_none formed)
  line_fields (w ∷ []) formed = one_kind w formed
  line_fields (w ∷ a ∷ []) formed = two_kinds w a formed
  line_fields (w ∷ a ∷ b ∷ []) formed = three_kinds w a b formed
  line_fields (w ∷ a ∷ b ∷ d ∷ []) formed = absurd (other_none formed)
  line_fields (w ∷ a ∷ b ∷ d ∷ e ∷ []) formed = five_kinds w a b d e formed
  line_fields (w ∷ a ∷ b ∷ d ∷ e ∷ f ∷ more) formed = absurd (other_none formed)

-- ---- the fields of the line that is written

-- fields alike in turn
two_alike : {word a a' : List ℕ} → FieldAlike a a' → Each FieldAlike (word ∷ a ∷ []) (word ∷ a' ∷ [])
two_alike one = Each.more (field_same refl) (Each.more one Each.none)

three_alike : {word a a' b b' : List ℕ} → FieldAlike a a' → FieldAlike b b' → Each FieldAlike (word ∷ a ∷ b ∷ []) (word ∷ a' ∷ b' ∷ [])
three_alike one two = Each.more (field_same refl) (Each.more one (Each.more two Each.none))

module _ {roles users : List Name} (roles-named : Named roles) (users-named : Named users) (few : length roles ≤ 128) (c : Counts) where
  -- names that are spelled have no tab
  plain : (name : List ℕ) {text : List ℕ} → is_name name ≡ true → text ≡ name → free 9 text ≡ true
  plain name form is = ap (free 9) is ∙ free_name 9 name tab.letter form

  -- the two names of a has line
  has_fields : (holder held : List ℕ) → (asked c roles users (kind.has holder held)).formed ≡ true → (asked c roles users (kind.has holder held)).known ≡ true
      → split 9 (line_text roles users (asked c roles users (kind.has holder held)).says) ≡ bytes "has" ∷ holder ∷ held ∷ []
  unfolding asked line_text split onto
  has_fields holder held formed known =
      let forms = (and-eq-true_iff (is_name holder) (is_name held)).0 ((and-eq-true_iff (in_order c.stage has_kind) (is_name holder && is_name held)).0 formed).1 in
      let both = (and-eq-true_iff (is_declared users holder) (is_declared roles held)).0 known in
      let one = placed_name users-named holder forms.0 both.0 in
      let two = placed_name roles-named held forms.1 both.1 in
      three_pieces {word = bytes "has"} refl (plain holder forms.0 one) (plain held forms.1 two) ∙ ap₂ (λ (a b : List ℕ). bytes "has" ∷ a ∷ b ∷ []) one two

  -- each kind of line, by its fields
  kind_alike : (line : kind.Line) → (asked c roles users line).formed ≡ true → (asked c roles users line).known ≡ true → Each FieldAlike (fields_of line) (split 9 (line_text roles users (asked c roles users line).says))
  unfolding asked fields_of line_text split onto field
  kind_alike (kind.header edition) formed known =
      let parts = (and-eq-true_iff (eqb c.stage 0) (same_bytes edition (bytes "1"))).0 formed in
      two_alike (field_same (same_equal edition (bytes "1") parts.1))
  kind_alike (kind.role name) formed known =
      let parts = (and-eq-true_iff (in_order c.stage role_kind && is_name name) (not (is_declared roles name))).0 formed in
      let form = (and-eq-true_iff (in_order c.stage role_kind) (is_name name)).0 parts.0 in
      let one = spelled-packed name form.1 in
      subst (Each FieldAlike (bytes "role" ∷ name ∷ [])) (sym (two_pieces {word = bytes "role"} refl (plain name form.1 one))) (two_alike (field_same (sym one)))
  kind_alike (kind.user name clearance) formed known =
      let parts = (and-eq-true_iff (in_order c.stage user_kind && is_name name && is_label clearance) (not (is_declared users name))).0 formed in
      let form = (and-eq-true_iff (in_order c.stage user_kind && is_name name) (is_label clearance)).0 parts.0 in
      let named = (and-eq-true_iff (in_order c.stage user_kind) (is_name name)).0 form.0 in
      let one = spelled-packed name named.1 in
      let high = same_bytes clearance (bytes "H") in
      subst (Each FieldAlike (bytes "user" ∷ name ∷ clearance ∷ [])) (sym (three_pieces {word = bytes "user"} refl (plain name named.1 one) (free_name 9 (label_text high) tab.letter (label_name high))))
      (three_alike (field_same (sym one)) (field_same (sym (label_same clearance form.1))))
  kind_alike (kind.has holder held) formed known = subst (Each FieldAlike (bytes "has" ∷ holder ∷ held ∷ [])) (sym (has_fields holder held formed known)) (three_alike (field_same refl) (field_same refl))
  kind_alike (kind.assign admin positive negative target) formed known =
      let forms = (and-eq-true_iff (is_name admin && is_set positive) (is_set negative && is_name target)).0 ((and-eq-true_iff (in_order c.stage assign_kind) (is_name admin && is_set positive && (is_set negative && is_name target))).0 formed).1 in
      let front = (and-eq-true_iff (is_name admin) (is_set positive)).0 forms.0 in
      let last = (and-eq-true_iff (is_set negative) (is_name target)).0 forms.1 in
      let knowns = (and-eq-true_iff (is_declared roles admin && all_declared roles positive) (all_declared roles negative && is_declared roles target)).0 known in
      let ahead = (and-eq-true_iff (is_declared roles admin) (all_declared roles positive)).0 knowns.0 in
      let behind = (and-eq-true_iff (all_declared roles negative) (is_declared roles target)).0 knowns.1 in
      let one = placed_name roles-named admin front.0 ahead.0 in
      let four = placed_name roles-named target last.1 behind.1 in
      subst (Each FieldAlike (bytes "assign" ∷ admin ∷ positive ∷ negative ∷ target ∷ []))
      (sym (five_pieces {word = bytes "assign"} refl (plain admin front.0 one) (set_free roles-named (roles_of roles positive) tab) (set_free roles-named (roles_of roles negative) tab) (plain target last.1 four)))
      (Each.more (field_same refl) (Each.more (field_same (sym one)) (Each.more (set_alike roles-named few positive front.1 ahead.1) (Each.more (set_alike roles-named few negative last.0 behind.0) (Each.more (field_same (sym four)) Each.none)))))
  kind_alike (kind.revoke admin target) formed known =
      let forms = (and-eq-true_iff (is_name admin) (is_name target)).0 ((and-eq-true_iff (in_order c.stage revoke_kind) (is_name admin && is_name target)).0 formed).1 in
      let both = (and-eq-true_iff (is_declared roles admin) (is_declared roles target)).0 known in
      let one = placed_name roles-named admin forms.0 both.0 in
      let two = placed_name roles-named target forms.1 both.1 in
      subst (Each FieldAlike (bytes "revoke" ∷ admin ∷ target ∷ [])) (sym (three_pieces {word = bytes "revoke"} refl (plain admin forms.0 one) (plain target forms.1 two)))
      (three_alike (field_same (sym one)) (field_same (sym two)))
  kind_alike (kind.goal set) formed known =
      let form = ((and-eq-true_iff (in_order c.stage goal_kind && not (same_bytes set (bytes "-"))) (is_set set)).0 formed).1 in
      subst (Each FieldAlike (bytes "goal" ∷ set ∷ [])) (sym (two_pieces {word = bytes "goal"} refl (set_free roles-named (roles_of roles set) tab))) (two_alike (set_alike roles-named few set form known))
  kind_alike kind.end formed known = Each.more (field_same refl) Each.none
  kind_alike kind.other formed known = absurd (false≢true formed)

-- ---- a whole line

-- A line is like itself.
pub line_own : (line : List ℕ) → LineAlike line line
line_own line = record { fields = each_same (split 9 line) }
  where
    each_same : (fields : List (List ℕ)) → Each FieldAlike fields fields
    each_same [] = Each.none
    each_same (one ∷ fields) = Each.more (field_same refl) (each_same fields)

module _ (s : Said) (line : List ℕ) (sound : Sound s) where
  -- A good line is like what is written of it.
  pub line_alike : {e : Entry} → GoodLine (counts_of s) s.roles s.users (line_of (split 9 line)) e → LineAlike line (line_text s.roles s.users e)
  line_alike {e} good = record {
    fields =
        subst (λ (l : List (List ℕ)). Each FieldAlike l (split 9 (line_text s.roles s.users e))) (sym (line_fields (counts_of s) s.roles s.users (split 9 line) good.formed))
        (subst (λ (x : Entry). Each FieldAlike (fields_of (line_of (split 9 line))) (split 9 (line_text s.roles s.users x))) good.says
        (kind_alike sound.roles.named sound.users.named sound.roles.most (counts_of s) (line_of (split 9 line)) good.formed good.known));
  }

  -- A has line is what is written of it.
  pub has_line : {holder held : List ℕ} → line_of (split 9 line) ≡ kind.has holder held → (asked (counts_of s) s.roles s.users (kind.has holder held)).formed ≡ true → (asked (counts_of s) s.roles s.users (kind.has holder held)).known ≡ true
      → (line ≡ line_text s.roles s.users (asked (counts_of s) s.roles s.users (kind.has holder held)).says) × HasLine line
  unfolding fields_of
  has_line {holder} {held} is formed known =
      let written = line_text s.roles s.users (asked (counts_of s) s.roles s.users (kind.has holder held)).says in
      let cut : split 9 line ≡ bytes "has" ∷ holder ∷ held ∷ [] = line_fields (counts_of s) s.roles s.users (split 9 line) (ap (λ (l : kind.Line). (asked (counts_of s) s.roles s.users l).formed) is ∙ formed) ∙ ap fields_of is in
      let again = has_fields sound.roles.named sound.users.named sound.roles.most (counts_of s) holder held formed known in
      (split-parted 9 line ∙ ap (parted 9) (cut ∙ sym again) ∙ sym (split-parted 9 written), record { rest = holder ∷ held ∷ []; first_field = cut })
