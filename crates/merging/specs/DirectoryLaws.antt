-- Two policies are over the same directory exactly when roles, users and holdings are equal; and two ledgers tell it by their words.
use Rattle.std.specs.Prelude.{ℕ, ◌*◌, ◌<◌, ◌≤◌, Bool, true, false, not, ◌↔◌, ◌≡◌, eqb, take, drop, get_or}
use Rattle.std.specs.Cmp.Lexicographic.{pointwise, pointwise_decides, unequal}
use Rattle.std.proofs.Math.Bool.{◌&&◌, and-false, and-eq-true_iff}
use Rattle.std.proofs.Common.{true≢false, sym, subst, ◌∙◌, eq-eqb, length-drop, ext_get_or, arith}
use Rattle.std.proofs.lemmas.Bool.{false≢true}
use mathlib.Core.List.{List, [], ◌∷◌}
use Rattle.std.proofs.Math.Path.{refl, ap, ap₂}
use Rattle.std.proofs.Math.ListN.{length}
use Rattle.roles.specs.Sets.{same_set}
use Rattle.roles.specs.MemberLaws.{same_equal, equal_same}
use Rattle.model.specs.declared.Person.{Person}
use Rattle.model.specs.Policy.{nobody}
use Rattle.tables.specs.declared.Name.{Name}
use Rattle.tables.specs.Names.{same_name, place_of, rows}
use Rattle.tables.specs.NameLaws.{rows_length, place_one_to_one}
use Rattle.ledgers.specs.Parts.{row_at, rows_in}
use Rattle.ledgers.specs.PartLaws.{rows_at, rows_length as part-length}
use Rattle.ledgers.specs.Ledger.{ledger_words, people}
use Rattle.ledgers.specs.LedgerLaws.{roles-rows, users-rows}
use Rattle.lines.specs.declared.Counts.{Counts}
use Rattle.reading.specs.Policy.{Said}
use Rattle.reading.specs.Ledger.{ledger_says}
use Rattle.merging.specs.Directory.{same_label, same_person, same_directory, SameDirectory}
use Rattle.merging.specs.Comparing.{same_names}

-- ---- names and people are compared exactly

-- a name is the same as itself
name_itself : (m : Name) → same_name m m ≡ true
unfolding same_name
name_itself m =
    rw (eq-eqb m.first m.first refl, eq-eqb m.second m.second refl, eq-eqb m.third m.third refl, eq-eqb m.fourth m.fourth refl)

-- names that are the same stand at one place
name_exact : (m n : Name) → same_name m n ≡ true ↔ m ≡ n
unfolding place_of
name_exact m n = (
  λ e.
      let here : place_of (m ∷ []) m ≡ 0 = rw (name_itself m) in
      let there : place_of (m ∷ []) n ≡ 0 = rw e in
      place_one_to_one (m ∷ []) m n (here ∙ sym there) (omega (arith, here)),
  λ e. subst (λ (x : Name). same_name m x ≡ true) e (name_itself m),
)

-- labels are compared exactly
label_exact : (l m : Bool) → same_label l m ≡ true ↔ l ≡ m
unfolding same_label
label_exact true true = (λ _. refl, λ _. refl)
label_exact true false = (λ e. absurd (false≢true e), λ e. absurd (true≢false e))
label_exact false true = (λ e. absurd (false≢true e), λ e. absurd (false≢true e))
label_exact false false = (λ _. refl, λ _. refl)

-- and so are a clearance, a presence and a set together
person_exact : (p q : Person) → same_person p q ≡ true ↔ p ≡ q
unfolding same_person
person_exact p q = (
  λ e.
      let both = (and-eq-true_iff (same_label p.clearance q.clearance && same_label p.present q.present) (same_set p.roles q.roles)).0 e in
      let flags = (and-eq-true_iff (same_label p.clearance q.clearance) (same_label p.present q.present)).0 both.0 in
      λ i. record { clearance = (label_exact p.clearance q.clearance).0 flags.0 i; present = (label_exact p.present q.present).0 flags.1 i; roles = same_equal p.roles q.roles both.1 i },
  λ e. subst (λ (x : Person). same_person p x ≡ true) e (ap₂ ◌&&◌ (ap₂ ◌&&◌ ((label_exact p.clearance p.clearance).1 refl) ((label_exact p.present p.present).1 refl)) (equal_same p.roles)),
)

-- ---- the directories of two policy texts

-- They are compared exactly.
pub same_exact : (s s' : Said) → same_directory s s' ≡ true ↔ SameDirectory s s'
unfolding same_directory
same_exact s s' = (
  λ e.
      let two = (and-eq-true_iff (pointwise same_name s.roles s'.roles && pointwise same_name s.users s'.users) (pointwise same_person s.holdings s'.holdings)).0 e in
      let one = (and-eq-true_iff (pointwise same_name s.roles s'.roles) (pointwise same_name s.users s'.users)).0 two.0 in
      record {
        roles = (pointwise_decides name_exact s.roles s'.roles).0 one.0;
        users = (pointwise_decides name_exact s.users s'.users).0 one.1;
        holdings = (pointwise_decides person_exact s.holdings s'.holdings).0 two.1;
      },
  λ d. ap₂ ◌&&◌
      (ap₂ ◌&&◌ ((pointwise_decides name_exact s.roles s'.roles).1 d.roles) ((pointwise_decides name_exact s.users s'.users).1 d.users))
      ((pointwise_decides person_exact s.holdings s'.holdings).1 d.holdings),
)

-- ---- how two ledgers tell it

module _ {m n : ℕ} (one two : List ℕ) where
  -- tables of differently many names differ
  pub counts_differ : (m ≡ n → ⊥) → pointwise same_name (rows m one) (rows n two) ≡ false
  counts_differ differ = unequal same_name (rows m one) (rows n two) (λ e. differ (sym (rows_length m one) ∙ e ∙ rows_length n two))

  -- tables of as many names are compared by their words
  pub words_told : m ≡ n → 4 * m ≤ length one → 4 * m ≤ length two → {differ b : Bool} → differ ≡ not (pointwise eqb (take (4 * m) one) (take (4 * m) two)) → differ ≡ b → pointwise same_name (rows m one) (rows n two) ≡ not b
  words_told even room other given is =
      ap (λ (k : ℕ). pointwise same_name (rows m one) (rows k two)) (sym even) ∙ sym (same_names m one two room other) ∙ twice _ ∙ sym (ap not given) ∙ ap not is
    where
      twice : (b : Bool) → b ≡ not (not b)
      twice true = refl
      twice false = refl

-- there is room for the user names, which stand from a place on
pub user_room : (words : List ℕ) → ledger_words ≤ length words → {users : ℕ} → users ≤ 64 → 4 * users ≤ length (drop 512 words)
user_room words enough few = omega (arith, length-drop 512 words)

module _ (one two : List ℕ) (c d : Counts) where
  -- the role names differ
  pub roles_differ : pointwise same_name (rows c.roles one) (rows d.roles two) ≡ false → false ≡ same_directory (ledger_says one c) (ledger_says two d)
  unfolding same_directory ledger_says
  roles_differ differ = rw (← roles-rows one c.roles, ← roles-rows two d.roles, differ)

  -- the user names differ
  pub users_differ : pointwise same_name (rows c.users (drop 512 one)) (rows d.users (drop 512 two)) ≡ false → false ≡ same_directory (ledger_says one c) (ledger_says two d)
  unfolding same_directory ledger_says
  users_differ differ = rw (← users-rows one c.users, ← users-rows two d.users, differ, and-false)

  -- the same names: the people decide
  pub people_told : pointwise same_name (rows c.roles one) (rows d.roles two) ≡ true
      → pointwise same_name (rows c.users (drop 512 one)) (rows d.users (drop 512 two)) ≡ true
      → c.users ≡ d.users
      → {answer : Bool} → answer ≡ pointwise same_person (rows_in people one c.users) (rows_in people two c.users) → answer ≡ same_directory (ledger_says one c) (ledger_says two d)
  unfolding same_directory ledger_says
  people_told roles users even given =
      rw (← roles-rows one c.roles, ← roles-rows two d.roles, ← users-rows one c.users, ← users-rows two d.users, roles, users)
      (given ∙ ap (λ (count : ℕ). pointwise same_person (rows_in people one c.users) (rows_in people two count)) even)

module _ (one two : List ℕ) {count : ℕ} where
  -- the people are the same at each place
  pub people_same : ((user : ℕ) → user < count → row_at people one user ≡ row_at people two user) → true ≡ pointwise same_person (rows_in people one count) (rows_in people two count)
  people_same each =
      let long : length (rows_in people one count) ≡ length (rows_in people two count) = part-length people one count ∙ sym (part-length people two count) in
      let same : rows_in people one count ≡ rows_in people two count = ext_get_or nobody _ _ long (λ user inside.
      let here : user < count = omega (arith, inside, part-length people one count) in
      rows_at people one count user nobody here ∙ each user here ∙ sym (rows_at people two count user nobody here)) in
      sym ((pointwise_decides person_exact _ _).1 same)

  -- the people at a place differ
  pub people_differ : {user : ℕ} → user < count → (row_at people one user ≡ row_at people two user → ⊥) → false ≡ pointwise same_person (rows_in people one count) (rows_in people two count)
  people_differ {user} here differ = go (pointwise same_person (rows_in people one count) (rows_in people two count)) refl
    where
      go : (b : Bool) → pointwise same_person (rows_in people one count) (rows_in people two count) ≡ b → false ≡ b
      go true e = absurd (differ (sym (rows_at people one count user nobody here) ∙ ap (λ (l : List Person). get_or l user nobody) ((pointwise_decides person_exact _ _).0 e) ∙ rows_at people two count user nobody here))
      go false e = refl
