-- Each part of a ledger is faithful: a row says what it was made of.
use Rattle.std.specs.Prelude.{ℕ, zero, suc, ◌+◌, ◌-◌, ◌*◌, ◌≤◌, ◌<◌, Bool, true, false, List, ◌∷◌, ◌≡◌, refl, ltb, length, get_or, take, drop}
use Rattle.std.proofs.Common.{ap, ap₂, ◌∙◌, lit≤, length-drop, get_or-drop, drop-drop, take_all, add-zero, arith}
use Rattle.std.proofs.lemmas.List.Edits.{sets}
use mir.Val.{bool_byte}
use Rattle.tables.specs.Names.{row_of, rows}
use Rattle.ledgers.specs.Parts.{part_of, rows_from, rows_in}
use Rattle.ledgers.specs.PartLaws.{Faithful, sets_at}
use Rattle.ledgers.specs.Ledger.{name_said, name_row, name_rows, role_names, user_names, standing, is_high, people, assign_rules, revoke_rules, goal_sets}

-- the words of a row that was stored
module _ (words : List ℕ) (at : ℕ) (row : List ℕ) (fits : at + length row ≤ length words) where
  word : (j : ℕ) → j < length row → get_or (sets words at row) (at + j) 0 ≡ get_or row j 0
  word j inside = sets_at words at row j refl inside fits

  first : 0 < length row → get_or (sets words at row) at 0 ≡ get_or row 0 0
  first some = sets_at words at row 0 (omega arith) some fits

-- names, wherever the part begins
pub name_rows_faithful : Faithful name_rows
name_rows_faithful = record {
  wide = λ name. refl;
  alone = λ one two at same. λ i. record { first = same at (omega arith) (omega arith) i; second = same (at + 1) (omega arith) (omega arith) i; third = same (at + 2) (omega arith) (omega arith) i; fourth = same (at + 3) (omega arith) (omega arith) i };
  back = λ words at name fits. λ i. record { first = first words at (name_row name) fits (omega arith) i; second = word words at (name_row name) fits 1 (omega arith) i; third = word words at (name_row name) fits 2 (omega arith) i; fourth = word words at (name_row name) fits 3 (omega arith) i };
}

-- a name of a table is what its four words say
name-from : (words : List ℕ) (at : ℕ) {k : ℕ} → at ≡ k → row_of (drop at words) ≡ name_said words k
unfolding row_of
name-from words at is = λ i. record { first = (get_or-drop at words 0 0 ∙ ap (λ (k : ℕ). get_or words k 0) (add-zero at ∙ is)) i; second = (get_or-drop at words 1 0 ∙ ap (λ (k : ℕ). get_or words (k + 1) 0) is) i; third = (get_or-drop at words 2 0 ∙ ap (λ (k : ℕ). get_or words (k + 2) 0) is) i; fourth = (get_or-drop at words 3 0 ∙ ap (λ (k : ℕ). get_or words (k + 3) 0) is) i }

-- so is one of the words from a place on, as they are lent
pub name_lent : (words : List ℕ) (at : ℕ) → row_of (take (length words - at) (drop at words)) ≡ name_said words at
name_lent words at = ap row_of (take_all (length words - at) (drop at words) (omega (arith, length-drop at words))) ∙ name-from words at refl

-- a table of names is the part that begins where it begins
from-rows : (from : ℕ) (words : List ℕ) (place count at : ℕ) → at ≡ from + 4 * place → rows count (drop at words) ≡ rows_from (part_of name_rows from) words place count
unfolding rows rows_from
from-rows from words place zero at is = refl
from-rows from words place (suc count) at is = ap₂ ◌∷◌ (name-from words at is) (ap (rows count) (drop-drop 4 at words) ∙ from-rows from words (suc place) count (at + 4) (omega arith))

pub roles-rows : (words : List ℕ) (count : ℕ) → rows count words ≡ rows_in role_names words count
unfolding rows_in
roles-rows words count = from-rows 0 words 0 count 0 refl

pub users-rows : (words : List ℕ) (count : ℕ) → rows count (drop 512 words) ≡ rows_in user_names words count
unfolding rows_in
users-rows words count = from-rows 512 words 0 count 512 refl

pub roles_faithful : Faithful role_names.rows
roles_faithful = name_rows_faithful

pub users_faithful : Faithful user_names.rows
users_faithful = name_rows_faithful

-- so is the part of a ledger from there on, as it is lent
pub users_lent : (words : List ℕ) (count : ℕ) → rows count (take (length words - 512) (drop 512 words)) ≡ rows_in user_names words count
users_lent words count = ap (rows count) (take_all (length words - 512) (drop 512 words) (omega (arith, length-drop 512 words))) ∙ users-rows words count

-- clearance and presence are told by their word
cleared : (present clearance : Bool) → is_high (standing present clearance) ≡ clearance
cleared true true = refl
cleared true false = refl
cleared false true = refl
cleared false false = refl

here : (present clearance : Bool) → ltb 1 (standing present clearance) ≡ present
here true true = refl
here true false = refl
here false true = refl
here false false = refl

-- each flag is small
pub flag_small : (flag : Bool) → bool_byte flag ≤ 1
flag_small true = lit≤ tt
flag_small false = lit≤ tt

pub people_faithful : Faithful people.rows
people_faithful = record {
  wide = λ p. refl;
  alone = λ one two at same. λ i. record { clearance = is_high (same at (omega arith) (omega arith) i); present = ltb 1 (same at (omega arith) (omega arith) i); roles = record { low = same (at + 1) (omega arith) (omega arith) i; high = same (at + 2) (omega arith) (omega arith) i } };
  back = λ words at p fits. λ i. record { clearance = (ap is_high (first words at (people.rows.row p) fits (omega arith)) ∙ cleared p.present p.clearance) i; present = (ap (ltb 1) (first words at (people.rows.row p) fits (omega arith)) ∙ here p.present p.clearance) i; roles = record { low = word words at (people.rows.row p) fits 1 (omega arith) i; high = word words at (people.rows.row p) fits 2 (omega arith) i } };
}

pub assigns_faithful : Faithful assign_rules.rows
assigns_faithful = record {
  wide = λ rule. refl;
  alone = λ one two at same. λ i. record {
    admin = same at (omega arith) (omega arith) i;
    positive = record { low = same (at + 1) (omega arith) (omega arith) i; high = same (at + 2) (omega arith) (omega arith) i };
    negative = record { low = same (at + 3) (omega arith) (omega arith) i; high = same (at + 4) (omega arith) (omega arith) i };
    target = same (at + 5) (omega arith) (omega arith) i;
  };
  back = λ words at rule fits. λ i. record {
    admin = first words at (assign_rules.rows.row rule) fits (omega arith) i;
    positive = record { low = word words at (assign_rules.rows.row rule) fits 1 (omega arith) i; high = word words at (assign_rules.rows.row rule) fits 2 (omega arith) i };
    negative = record { low = word words at (assign_rules.rows.row rule) fits 3 (omega arith) i; high = word words at (assign_rules.rows.row rule) fits 4 (omega arith) i };
    target = word words at (assign_rules.rows.row rule) fits 5 (omega arith) i;
  };
}

pub revokes_faithful : Faithful revoke_rules.rows
revokes_faithful = record {
  wide = λ rule. refl;
  alone = λ one two at same. λ i. record { admin = same at (omega arith) (omega arith) i; target = same (at + 1) (omega arith) (omega arith) i };
  back = λ words at rule fits. λ i. record { admin = first words at (revoke_rules.rows.row rule) fits (omega arith) i; target = word words at (revoke_rules.rows.row rule) fits 1 (omega arith) i };
}

pub goals_faithful : Faithful goal_sets.rows
goals_faithful = record {
  wide = λ goal. refl;
  alone = λ one two at same. λ i. record { low = same at (omega arith) (omega arith) i; high = same (at + 1) (omega arith) (omega arith) i };
  back = λ words at goal fits. λ i. record { low = first words at (goal_sets.rows.row goal) fits (omega arith) i; high = word words at (goal_sets.rows.row goal) fits 1 (omega arith) i };
}
