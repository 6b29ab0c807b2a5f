-- Two lines of alike fields: each is as long as the other, and is judged as it.
use Rattle.std.specs.Prelude.{ℕ, Bool, true, false, cond, ◌&&◌, List, [], ◌∷◌, ◌++◌, ◌≡◌, length}
use Rattle.std.proofs.Math.Bool.{not, and-false}
use Rattle.std.proofs.Math.Path.{refl}
use Rattle.std.proofs.Common.{sym, ap, subst, ◌∙◌, arith}
use Rattle.std.proofs.Math.Dec.{eqb, ltb}
use Rattle.model.specs.Policy.{assigning}
use Rattle.text.specs.Forms.{bytes, every, is_name, is_set, is_label}
use Rattle.text.specs.Pieces.{same_bytes}
use Rattle.tables.specs.declared.Name.{Name}
use Rattle.tables.specs.Names.{packed}
use Rattle.fields.specs.Fields.{placed, is_declared}
use Rattle.walking.specs.Texts.{Judged, bad}
use Rattle.walking.specs.Turns.{test, in_turn}
use Rattle.lines.specs.declared.Counts.{Counts}
use Rattle.lines.specs.declared.Entry.{Entry}
use Rattle.lines.specs.Lines.{Asked, one_field, two_fields, three_fields, five_fields, line_of, asked, tests, in_order, role_kind, user_kind, has_kind, assign_kind, revoke_kind, goal_kind}
use Rattle.lines.specs.Lines as kind
use Rattle.reading.specs.Policy.{Said, counts_of, is_new, leads, line_asked, line_tests, judge_line}
use Rattle.rereading.specs.Cuts.{free}
use Rattle.reordering.specs.Alike.{Each, FieldAlike, LineAlike}
use Rattle.reordering.specs.Orders.{each_length, each_total}
use Rattle.reordering.specs.FieldsSame.{SameName, split_length, field_length, same_word, same_label_lem, same_name, same_set_lem, same_declared, same_roles}

pub line_length_lem : (line other : List ℕ) → LineAlike line other → length line ≡ length other
line_length_lem line other alike = omega (arith, split_length 9 line, split_length 9 other, each_total field_length alike.fields, each_length alike.fields)

-- ---- lines of one kind with alike fields

data KindAlike : kind.Line → kind.Line → Type 0 where
  header : {edition edition' : List ℕ} → FieldAlike edition edition' → KindAlike (kind.header edition) (kind.header edition')
  role : {name name' : List ℕ} → FieldAlike name name' → KindAlike (kind.role name) (kind.role name')
  user : {name name' clearance clearance' : List ℕ} → FieldAlike name name' → FieldAlike clearance clearance' → KindAlike (kind.user name clearance) (kind.user name' clearance')
  has : {holder holder' held held' : List ℕ} → FieldAlike holder holder' → FieldAlike held held' → KindAlike (kind.has holder held) (kind.has holder' held')
  assign : {admin admin' positive positive' negative negative' target target' : List ℕ} → FieldAlike admin admin' → FieldAlike positive positive' → FieldAlike negative negative' → FieldAlike target target'
      → KindAlike (kind.assign admin positive negative target) (kind.assign admin' positive' negative' target')
  revoke : {admin admin' target target' : List ℕ} → FieldAlike admin admin' → FieldAlike target target' → KindAlike (kind.revoke admin target) (kind.revoke admin' target')
  goal : {set set' : List ℕ} → FieldAlike set set' → KindAlike (kind.goal set) (kind.goal set')
  end : KindAlike kind.end kind.end
  other : KindAlike kind.other kind.other

-- the first field decides the kind, and is the same word in both
one_alike : (w w' : List ℕ) → FieldAlike w w' → KindAlike (one_field w) (one_field w')
unfolding one_field free every
one_alike w w' word = rw (same_word (bytes "end") w w' refl word) (go (same_bytes w' (bytes "end")))
  where
    go : (b : Bool) → KindAlike (cond b kind.end kind.other) (cond b kind.end kind.other)
    go true = end
    go false = other

two_alike : (w w' a a' : List ℕ) → FieldAlike w w' → FieldAlike a a' → KindAlike (two_fields w a) (two_fields w' a')
unfolding two_fields free every
two_alike w w' a a' word like =
    rw (same_word (bytes "role") w w' refl word, same_word (bytes "goal") w w' refl word, same_word (bytes "arbac") w w' refl word)
    (go (same_bytes w' (bytes "role")) (same_bytes w' (bytes "goal")) (same_bytes w' (bytes "arbac")))
  where
    go : (b c d : Bool) → KindAlike (cond b (kind.role a) (cond c (kind.goal a) (cond d (kind.header a) kind.other))) (cond b (kind.role a') (cond c (kind.goal a') (cond d (kind.header a') kind.other)))
    go true c d = role like
    go false true d = goal like
    go false false true = header like
    go false false false = other

three_alike : (w w' a a' b b' : List ℕ) → FieldAlike w w' → FieldAlike a a' → FieldAlike b b' → KindAlike (three_fields w a b) (three_fields w' a' b')
unfolding three_fields free every
three_alike w w' a a' b b' word like second =
    rw (same_word (bytes "has") w w' refl word, same_word (bytes "revoke") w w' refl word, same_word (bytes "user") w w' refl word)
    (go (same_bytes w' (bytes "has")) (same_bytes w' (bytes "revoke")) (same_bytes w' (bytes "user")))
  where
    go : (t u v : Bool) → KindAlike (cond t (kind.has a b) (cond u (kind.revoke a b) (cond v (kind.user a b) kind.other))) (cond t (kind.has a' b') (cond u (kind.revoke a' b') (cond v (kind.user a' b') kind.other)))
    go true u v = has like second
    go false true v = revoke like second
    go false false true = user like second
    go false false false = other

five_alike : (w w' a a' b b' c c' d d' : List ℕ) → FieldAlike w w' → FieldAlike a a' → FieldAlike b b' → FieldAlike c c' → FieldAlike d d' → KindAlike (five_fields w a b c d) (five_fields w' a' b' c' d')
unfolding five_fields free every
five_alike w w' a a' b b' c c' d d' word first second third fourth = rw (same_word (bytes "assign") w w' refl word) (go (same_bytes w' (bytes "assign")))
  where
    go : (t : Bool) → KindAlike (cond t (kind.assign a b c d) kind.other) (cond t (kind.assign a' b' c' d') kind.other)
    go true = assign first second third fourth
    go false = other

kind_alike : {fields others : List (List ℕ)} → Each FieldAlike fields others → KindAlike (line_of fields) (line_of others)
unfolding line_of
kind_alike Each.none = other
kind_alike (Each.more {x = w} {y = w'} h Each.none) = one_alike w w' h
kind_alike (Each.more {x = w} {y = w'} h (Each.more {x = a} {y = a'} i Each.none)) = two_alike w w' a a' h i
kind_alike (Each.more {x = w} {y = w'} h (Each.more {x = a} {y = a'} i (Each.more {x = b} {y = b'} j Each.none))) = three_alike w w' a a' b b' h i j
kind_alike (Each.more h (Each.more i (Each.more j (Each.more k Each.none)))) = other
kind_alike (Each.more {x = w} {y = w'} h (Each.more {x = a} {y = a'} i (Each.more {x = b} {y = b'} j (Each.more {x = c} {y = c'} k (Each.more {x = d} {y = d'} l Each.none))))) = five_alike w w' a a' b b' c c' d d' h i j k l
kind_alike (Each.more h (Each.more i (Each.more j (Each.more k (Each.more l (Each.more m rest)))))) = other

-- ---- what is asked of them

-- The same, or neither has its form.
data AskedAlike : Asked → Asked → Type 0 where
  same : {a : Asked} → AskedAlike a a
  unformed : {a b : Asked} → a.formed ≡ false → b.formed ≡ false → AskedAlike a b

asked_same : {a b : Asked} → a ≡ b → AskedAlike a b
asked_same {a} is = subst (AskedAlike a) is same

module _ (c : Counts) (roles users : List Name) where
  -- a test before one that fails
  fails : (a : Bool) {b : Bool} → b ≡ false → (a && b) ≡ false
  fails a wrong = ap (λ (b : Bool). a && b) wrong ∙ and-false a

  fails_first : {a : Bool} (b : Bool) → a ≡ false → (a && b) ≡ false
  fails_first b wrong = ap (λ (a : Bool). a && b) wrong

  role_alike : {name name' : List ℕ} → SameName name name' → AskedAlike (asked c roles users (kind.role name)) (asked c roles users (kind.role name'))
  unfolding asked
  role_alike SameName.one = same
  role_alike (SameName.neither {field = name} {other = name'} wrong wrong') =
      unformed (fails_first (not (is_declared roles name)) (fails (in_order c.stage role_kind) wrong)) (fails_first (not (is_declared roles name')) (fails (in_order c.stage role_kind) wrong'))

  user_alike : {name name' : List ℕ} (clearance clearance' : List ℕ) → SameName name name' → FieldAlike clearance clearance'
      → AskedAlike (asked c roles users (kind.user name clearance)) (asked c roles users (kind.user name' clearance'))
  unfolding asked free every
  user_alike clearance clearance' (SameName.one {field = name}) label = asked_same (λ i. record {
    formed = in_order c.stage user_kind && is_name name && same_label_lem clearance clearance' label i && not (is_declared users name);
    within = ltb c.users 64;
    known = true;
    says = Entry.User (packed name) (same_word (bytes "H") clearance clearance' refl label i);
  })
  user_alike clearance clearance' (SameName.neither {field = name} {other = name'} wrong wrong') label =
      unformed (fails_first (not (is_declared users name)) (fails_first (is_label clearance) (fails (in_order c.stage user_kind) wrong)))
      (fails_first (not (is_declared users name')) (fails_first (is_label clearance') (fails (in_order c.stage user_kind) wrong')))

  has_alike : {holder holder' held held' : List ℕ} → SameName holder holder' → SameName held held' → AskedAlike (asked c roles users (kind.has holder held)) (asked c roles users (kind.has holder' held'))
  unfolding asked
  has_alike SameName.one SameName.one = same
  has_alike {holder} {holder'} h (SameName.neither wrong wrong') = unformed (fails (in_order c.stage has_kind) (fails (is_name holder) wrong)) (fails (in_order c.stage has_kind) (fails (is_name holder') wrong'))
  has_alike {held = held} {held' = held'} (SameName.neither wrong wrong') SameName.one = unformed (fails (in_order c.stage has_kind) (fails_first (is_name held) wrong)) (fails (in_order c.stage has_kind) (fails_first (is_name held') wrong'))

  revoke_alike : {admin admin' target target' : List ℕ} → SameName admin admin' → SameName target target' → AskedAlike (asked c roles users (kind.revoke admin target)) (asked c roles users (kind.revoke admin' target'))
  unfolding asked
  revoke_alike SameName.one SameName.one = same
  revoke_alike {admin} {admin'} h (SameName.neither wrong wrong') = unformed (fails (in_order c.stage revoke_kind) (fails (is_name admin) wrong)) (fails (in_order c.stage revoke_kind) (fails (is_name admin') wrong'))
  revoke_alike {target = target} {target' = target'} (SameName.neither wrong wrong') SameName.one = unformed (fails (in_order c.stage revoke_kind) (fails_first (is_name target) wrong)) (fails (in_order c.stage revoke_kind) (fails_first (is_name target') wrong'))

  assign_alike : {admin admin' target target' : List ℕ} (positive positive' negative negative' : List ℕ) → SameName admin admin' → FieldAlike positive positive' → FieldAlike negative negative' → SameName target target'
      → AskedAlike (asked c roles users (kind.assign admin positive negative target)) (asked c roles users (kind.assign admin' positive' negative' target'))
  unfolding asked
  assign_alike positive positive' negative negative' (SameName.one {field = admin}) plus minus (SameName.one {field = target}) = asked_same (λ i. record {
    formed = in_order c.stage assign_kind && (is_name admin && same_set_lem positive positive' plus i && (same_set_lem negative negative' minus i && is_name target));
    within = ltb c.assigns 256;
    known = is_declared roles admin && same_declared roles positive positive' plus i && (same_declared roles negative negative' minus i && is_declared roles target);
    says = Entry.Assign (assigning (placed roles admin) (same_roles roles positive positive' plus i) (same_roles roles negative negative' minus i) (placed roles target));
  })
  assign_alike {admin} {admin'} positive positive' negative negative' h plus minus (SameName.neither wrong wrong') =
      unformed (fails (in_order c.stage assign_kind) (fails (is_name admin && is_set positive) (fails (is_set negative) wrong)))
      (fails (in_order c.stage assign_kind) (fails (is_name admin' && is_set positive') (fails (is_set negative') wrong')))
  assign_alike {target = target} {target' = target'} positive positive' negative negative' (SameName.neither wrong wrong') plus minus SameName.one =
      unformed (fails (in_order c.stage assign_kind) (fails_first (is_set negative && is_name target) (fails_first (is_set positive) wrong)))
      (fails (in_order c.stage assign_kind) (fails_first (is_set negative' && is_name target') (fails_first (is_set positive') wrong')))

  asked_alike : {line line' : kind.Line} → KindAlike line line' → AskedAlike (asked c roles users line) (asked c roles users line')
  unfolding asked free every
  asked_alike (header {edition} {edition'} h) = asked_same (λ i. record { formed = eqb c.stage 0 && same_word (bytes "1") edition edition' refl h i; within = true; known = true; says = Entry.Header })
  asked_alike (role {name} {name'} h) = role_alike (same_name name name' h)
  asked_alike (user {name} {name'} {clearance} {clearance'} h label) = user_alike clearance clearance' (same_name name name' h) label
  asked_alike (has {holder} {holder'} {held} {held'} h i) = has_alike (same_name holder holder' h) (same_name held held' i)
  asked_alike (assign {admin} {admin'} {positive} {positive'} {negative} {negative'} {target} {target'} h plus minus i) =
      assign_alike positive positive' negative negative' (same_name admin admin' h) plus minus (same_name target target' i)
  asked_alike (revoke {admin} {admin'} {target} {target'} h i) = revoke_alike (same_name admin admin' h) (same_name target target' i)
  asked_alike (goal {set} {set'} h) = asked_same (λ i. record {
    formed = in_order c.stage goal_kind && not (same_word (bytes "-") set set' refl h i) && same_set_lem set set' h i;
    within = ltb c.goals 32;
    known = same_declared roles set set' h i;
    says = Entry.Goal (same_roles roles set set' h i);
  })
  asked_alike end = same
  asked_alike other = same

-- ---- how they are judged

-- A line is judged as one that is like it.
pub line_same : (s : Said) (line line' : List ℕ) → LineAlike line line' → judge_line s line ≡ judge_line s line'
unfolding judge_line line_tests line_asked tests in_turn
line_same s line line' alike = go (asked_alike (counts_of s) s.roles s.users (kind_alike alike.fields))
  where
    judged : Asked → Judged Said
    judged a = in_turn bad (tests a.formed a.within a.known ++ (test 11 (is_new s.holdings a.says) ∷ [])) (leads s a.says)

    first : (a : Asked) → a.formed ≡ false → judged a ≡ bad 11
    first a wrong = rw wrong

    go : {a b : Asked} → AskedAlike a b → judged a ≡ judged b
    go same = refl
    go (unformed {a} {b} one two) = first a one ∙ sym (first b two)
