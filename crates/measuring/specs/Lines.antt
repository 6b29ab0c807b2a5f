-- A good line is as long as the line that is written of what it says.
use Prim.Native.Nat.{ℕ, suc, ◌+◌, ◌≤◌}
use Rattle.std.specs.Prelude.{Bool, cond, ◌&&◌, ◌||◌, ◌≡◌, eqb}
use Rattle.std.proofs.Math.Bool.{true, false, not, and-eq-true_iff, false≢true}
use mathlib.Core.List.{List, [], ◌∷◌, ◌++◌}
use Rattle.std.proofs.Math.Path.{refl, ap}
use Rattle.std.proofs.Common.{◌∙◌}
use Rattle.std.proofs.Math.ListN.{length, length-append}
use native.Mathlib.Omega.{arith}
use Rattle.text.specs.Forms.{bytes, is_name, is_set, is_label}
use Rattle.text.specs.Pieces.{split, same_bytes, parted}
use Rattle.text.specs.PieceLaws.{same_equal, split-parted}
use Rattle.tables.specs.declared.Name.{Name}
use Rattle.tables.specs.Names.{packed, name_at}
use Rattle.tables.specs.Named.{Named}
use Rattle.fields.specs.Fields.{placed, is_declared, all_declared, roles_of}
use Rattle.lines.specs.declared.Counts.{Counts}
use Rattle.lines.specs.declared.Entry.{Entry}
use Rattle.lines.specs.Lines.{one_field, two_fields, three_fields, five_fields, line_of, asked, in_order, role_kind, user_kind, has_kind, assign_kind, revoke_kind, goal_kind}
use Rattle.lines.specs.Lines as kind
use Rattle.lines.specs.LineLaws.{GoodLine}
use Rattle.reading.specs.Policy.{Said, counts_of}
use Rattle.reading.specs.Sound.{Sound}
use Rattle.writing.specs.Written.{spelled}
use Rattle.writing.specs.Spelling.{spelled-packed}
use Rattle.showing.specs.Fields.{field}
use Rattle.spelling.specs.TypingText.{set_text, label_text}
use Rattle.inscribing.specs.LineText.{line_text}
use Rattle.measuring.specs.Sets.{at_place, set_length}

-- a label has one byte
label_length : (label : List ℕ) → is_label label ≡ true → length label ≡ 1
unfolding is_label
label_length label is = go (same_bytes label (bytes "L")) (same_bytes label (bytes "H")) refl refl is
  where
    go : (low high : Bool) → same_bytes label (bytes "L") ≡ low → same_bytes label (bytes "H") ≡ high → (low || high) ≡ true → length label ≡ 1
    go true high same other one = ap length (same_equal label (bytes "L") same)
    go false true same other one = ap length (same_equal label (bytes "H") other)
    go false false same other one = absurd (false≢true one)

text_one : (label : Bool) → length (label_text label) ≡ 1
unfolding label_text
text_one true = refl
text_one false = refl

-- how long a line is by its fields
unfoldable line_length : kind.Line → ℕ
line_length (kind.header edition) = 6 + length edition
line_length (kind.role name) = 5 + length name
line_length (kind.user name clearance) = 6 + length name + length clearance
line_length (kind.has holder held) = 5 + length holder + length held
line_length (kind.assign admin positive negative target) = 10 + length admin + length positive + length negative + length target
line_length (kind.revoke admin target) = 8 + length admin + length target
line_length (kind.goal set) = 5 + length set
line_length kind.end = 3
line_length kind.other = 0

-- ---- the fields of a line are its bytes

module _ (c : Counts) (roles users : List Name) where
  -- what is asked of a line of no kind
  other_none : (asked c roles users kind.other).formed ≡ true → ⊥
  unfolding asked
  other_none formed = false≢true formed

  one_length : (word : List ℕ) → (asked c roles users (one_field word)).formed ≡ true → length word ≡ line_length (one_field word)
  unfolding one_field line_length
  one_length word = go (same_bytes word (bytes "end")) refl
    where
      go : (b : Bool) → same_bytes word (bytes "end") ≡ b → (asked c roles users (cond b kind.end kind.other)).formed ≡ true → length word ≡ line_length (cond b kind.end kind.other)
      go true same formed = ap length (same_equal word (bytes "end") same)
      go false same formed = absurd (other_none formed)

  two_length : (word first : List ℕ) → (asked c roles users (two_fields word first)).formed ≡ true → length word + suc (length first) ≡ line_length (two_fields word first)
  unfolding two_fields line_length
  two_length word first = go (same_bytes word (bytes "role")) (same_bytes word (bytes "goal")) (same_bytes word (bytes "arbac")) refl refl refl
    where
      go : (r g h : Bool) → same_bytes word (bytes "role") ≡ r → same_bytes word (bytes "goal") ≡ g → same_bytes word (bytes "arbac") ≡ h
          → (asked c roles users (cond r (kind.role first) (cond g (kind.goal first) (cond h (kind.header first) kind.other)))).formed ≡ true
          → length word + suc (length first) ≡ line_length (cond r (kind.role first) (cond g (kind.goal first) (cond h (kind.header first) kind.other)))
      go true g h same goals headers formed = omega (arith, ap length (same_equal word (bytes "role") same))
      go false true h roles-not same headers formed = omega (arith, ap length (same_equal word (bytes "goal") same))
      go false false true roles-not goals same formed = omega (arith, ap length (same_equal word (bytes "arbac") same))
      go false false false roles-not goals headers formed = absurd (other_none formed)

  three_length : (word first second : List ℕ) → (asked c roles users (three_fields word first second)).formed ≡ true → length word + suc (length first + suc (length second)) ≡ line_length (three_fields word first second)
  unfolding three_fields line_length
  three_length word first second = go (same_bytes word (bytes "has")) (same_bytes word (bytes "revoke")) (same_bytes word (bytes "user")) refl refl refl
    where
      go : (h r u : Bool) → same_bytes word (bytes "has") ≡ h → same_bytes word (bytes "revoke") ≡ r → same_bytes word (bytes "user") ≡ u
          → (asked c roles users (cond h (kind.has first second) (cond r (kind.revoke first second) (cond u (kind.user first second) kind.other)))).formed ≡ true
          → length word + suc (length first + suc (length second)) ≡ line_length (cond h (kind.has first second) (cond r (kind.revoke first second) (cond u (kind.user first second) kind.other)))
      go true r u same revokes users-not formed = omega (arith, ap length (same_equal word (bytes "has") same))
      go false true u has-not same users-not formed = omega (arith, ap length (same_equal word (bytes "revoke") same))
      go false false true has-not revokes same formed = omega (arith, ap length (same_equal word (bytes "user") same))
      go false false false has-not revokes users-not formed = absurd (other_none formed)

  five_length : (word first second third fourth : List ℕ) → (asked c roles users (five_fields word first second third fourth)).formed ≡ true
      → length word + suc (length first + suc (length second + suc (length third + suc (length fourth)))) ≡ line_length (five_fields word first second third fourth)
  unfolding five_fields line_length
  five_length word first second third fourth = go (same_bytes word (bytes "assign")) refl
    where
      go : (a : Bool) → same_bytes word (bytes "assign") ≡ a → (asked c roles users (cond a (kind.assign first second third fourth) kind.other)).formed ≡ true
          → length word + suc (length first + suc (length second + suc (length third + suc (length fourth)))) ≡ line_length (cond a (kind.assign first second third fourth) kind.other)
      go true same formed = omega (arith, ap length (same_equal word (bytes "assign") same))
      go false same formed = absurd (other_none formed)

  parted_more : (first : List ℕ) (rest : List ℕ) → length (first ++ (9 ∷ rest)) ≡ length first + suc (length rest)
  parted_more first rest = length-append first (9 ∷ rest)

  -- a line that has its form has the bytes of its fields
  fields_length : (pieces : List (List ℕ)) → (asked c roles users (line_of pieces)).formed ≡ true → length (parted 9 pieces) ≡ line_length (line_of pieces)
  unfolding line_of parted
  fields_length [] formed = absurd (other_none formed)
  fields_length (w ∷ []) formed = one_length w formed
  fields_length (w ∷ a ∷ []) formed = omega (arith, two_length w a formed, parted_more w a)
  fields_length (w ∷ a ∷ b ∷ []) formed = omega (arith, three_length w a b formed, parted_more w (a ++ (9 ∷ b)), parted_more a b)
  fields_length (w ∷ a ∷ b ∷ d ∷ []) formed = absurd (other_none formed)
  fields_length (w ∷ a ∷ b ∷ d ∷ e ∷ []) formed =
      omega (arith, five_length w a b d e formed, parted_more w (a ++ (9 ∷ (b ++ (9 ∷ (d ++ (9 ∷ e)))))), parted_more a (b ++ (9 ∷ (d ++ (9 ∷ e)))), parted_more b (d ++ (9 ∷ e)), parted_more d e)
  fields_length (w ∷ a ∷ b ∷ d ∷ e ∷ f ∷ more) formed = absurd (other_none formed)

-- ---- what the line says is written as long

module _ {roles users : List Name} (roles-named : Named roles) (users-named : Named users) (few : length roles ≤ 128) (c : Counts) where
  -- a declared name at its place
  name_length : {table : List Name} → Named table → (name : List ℕ) → is_name name ≡ true → is_declared table name ≡ true → length (spelled (name_at table (placed table name))) ≡ length name
  name_length named name form known = ap length (ap spelled (at_place named name known) ∙ spelled-packed name form)

  -- each kind of line, by its fields
  kind_length : (line : kind.Line) → (asked c roles users line).formed ≡ true → (asked c roles users line).known ≡ true → line_length line ≡ length (line_text roles users (asked c roles users line).says)
  unfolding asked line_length line_text field
  kind_length (kind.header edition) formed known =
      let parts = (and-eq-true_iff (eqb c.stage 0) (same_bytes edition (bytes "1"))).0 formed in
      omega (arith, ap length (same_equal edition (bytes "1") parts.1))
  kind_length (kind.role name) formed known =
      let parts = (and-eq-true_iff (in_order c.stage role_kind && is_name name) (not (is_declared roles name))).0 formed in
      let form = (and-eq-true_iff (in_order c.stage role_kind) (is_name name)).0 parts.0 in
      omega (arith, ap length (spelled-packed name form.1))
  kind_length (kind.user name clearance) formed known =
      let parts = (and-eq-true_iff (in_order c.stage user_kind && is_name name && is_label clearance) (not (is_declared users name))).0 formed in
      let form = (and-eq-true_iff (in_order c.stage user_kind && is_name name) (is_label clearance)).0 parts.0 in
      let named = (and-eq-true_iff (in_order c.stage user_kind) (is_name name)).0 form.0 in
      let label = label_text (same_bytes clearance (bytes "H")) in
      omega (arith, ap length (spelled-packed name named.1), label_length clearance form.1, text_one (same_bytes clearance (bytes "H")), length-append (117 ∷ 115 ∷ 101 ∷ 114 ∷ 9 ∷ spelled (packed name)) (9 ∷ label))
  kind_length (kind.has holder held) formed known =
      let forms = (and-eq-true_iff (is_name holder) (is_name held)).0 ((and-eq-true_iff (in_order c.stage has_kind) (is_name holder && is_name held)).0 formed).1 in
      let both = (and-eq-true_iff (is_declared users holder) (is_declared roles held)).0 known in
      let first = spelled (name_at users (placed users holder)) in
      omega (arith, name_length users-named holder forms.0 both.0, name_length roles-named held forms.1 both.1, length-append (bytes "has" ++ field first) (field (spelled (name_at roles (placed roles held)))))
  kind_length (kind.assign admin positive negative target) formed known =
      let forms = (and-eq-true_iff (is_name admin && is_set positive) (is_set negative && is_name target)).0 ((and-eq-true_iff (in_order c.stage assign_kind) (is_name admin && is_set positive && (is_set negative && is_name target))).0 formed).1 in
      let first = (and-eq-true_iff (is_name admin) (is_set positive)).0 forms.0 in
      let last = (and-eq-true_iff (is_set negative) (is_name target)).0 forms.1 in
      let knowns = (and-eq-true_iff (is_declared roles admin && all_declared roles positive) (all_declared roles negative && is_declared roles target)).0 known in
      let ahead = (and-eq-true_iff (is_declared roles admin) (all_declared roles positive)).0 knowns.0 in
      let behind = (and-eq-true_iff (all_declared roles negative) (is_declared roles target)).0 knowns.1 in
      let one = field (spelled (name_at roles (placed roles admin))) in
      let two = field (set_text roles (roles_of roles positive)) in
      let three = field (set_text roles (roles_of roles negative)) in
      let four = field (spelled (name_at roles (placed roles target))) in
      omega (
        arith,
        name_length roles-named admin first.0 ahead.0,
        set_length roles-named few positive first.1 ahead.1,
        set_length roles-named few negative last.0 behind.0,
        name_length roles-named target last.1 behind.1,
        length-append (bytes "assign" ++ one ++ two ++ three) four,
        length-append (bytes "assign" ++ one ++ two) three,
        length-append (bytes "assign" ++ one) two,
      )
  kind_length (kind.revoke admin target) formed known =
      let forms = (and-eq-true_iff (is_name admin) (is_name target)).0 ((and-eq-true_iff (in_order c.stage revoke_kind) (is_name admin && is_name target)).0 formed).1 in
      let both = (and-eq-true_iff (is_declared roles admin) (is_declared roles target)).0 known in
      omega (
        arith,
        name_length roles-named admin forms.0 both.0,
        name_length roles-named target forms.1 both.1,
        length-append (bytes "revoke" ++ field (spelled (name_at roles (placed roles admin)))) (field (spelled (name_at roles (placed roles target)))),
      )
  kind_length (kind.goal set) formed known = omega (arith, set_length roles-named few set ((and-eq-true_iff (in_order c.stage goal_kind && not (same_bytes set (bytes "-"))) (is_set set)).0 formed).1 known)
  kind_length kind.end formed known = refl
  kind_length kind.other formed known = absurd (false≢true formed)

-- A good line is as long as what is written of it.
pub line_length_lem : (s : Said) (line : List ℕ) {e : Entry} → Sound s → GoodLine (counts_of s) s.roles s.users (line_of (split 9 line)) e → length line ≡ length (line_text s.roles s.users e)
line_length_lem s line sound good =
    let fields = line_of (split 9 line) in
    ap length (split-parted 9 line)
    ∙ fields_length (counts_of s) s.roles s.users (split 9 line) good.formed
    ∙ kind_length sound.roles.named sound.users.named sound.roles.most (counts_of s) fields good.formed good.known
    ∙ ap (λ (entry : Entry). length (line_text s.roles s.users entry)) good.says
