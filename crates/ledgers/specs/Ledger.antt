-- A ledger: a policy laid out in words, with a part for its role names, user names, people, assign rules, revoke rules and goals.
use Rattle.std.specs.Prelude.{ℕ, ◌+◌, ◌*◌, Bool, ◌||◌, List, [], ◌∷◌, ltb, eqb, get_or}
use mir.Val.{bool_byte}
use Rattle.roles.specs.declared.RoleSet.{RoleSet}
use Rattle.model.specs.declared.Assign.{Assign}
use Rattle.model.specs.declared.Revoke.{Revoke}
use Rattle.model.specs.declared.Person.{Person}
use Rattle.tables.specs.declared.Name.{Name}
use Rattle.ledgers.specs.Parts.{Part, Rows, part_of}

-- How many words a ledger has.
abbrev pub ledger_words : ℕ
ledger_words = 3072

-- A set is two words.
abbrev pub set_said : List ℕ → (low high : ℕ) → RoleSet
set_said words low high = record { low = get_or words low 0; high = get_or words high 0 }

-- A name is four words; there is room for 128 of roles, and then for 64 of users.
abbrev pub name_said : List ℕ → ℕ → Name
name_said words at = record { first = get_or words at 0; second = get_or words (at + 1) 0; third = get_or words (at + 2) 0; fourth = get_or words (at + 3) 0 }

abbrev pub name_row : Name → List ℕ
name_row name = name.first ∷ name.second ∷ name.third ∷ name.fourth ∷ []

abbrev pub name_rows : Rows Name
name_rows = record { width = 4; says = name_said; row = name_row }

abbrev pub role_names : Part Name
role_names = part_of name_rows 0

abbrev pub user_names : Part Name
user_names = part_of name_rows 512

-- Presence and clearance in one word: 2 for L and 3 for H, or 0 and 1 where the person is gone; and the words that say H.
abbrev pub standing : (present clearance : Bool) → ℕ
standing present clearance = 2 * bool_byte present + bool_byte clearance

abbrev pub is_high : ℕ → Bool
is_high word = eqb word 1 || eqb word 3

-- A person is three words: that one, and the roles. There is room for 64.
abbrev pub person_rows : Rows Person
person_rows = record {
  width = 3;
  says = λ words at. record { clearance = is_high (get_or words at 0); present = ltb 1 (get_or words at 0); roles = set_said words (at + 1) (at + 2) };
  row = λ p. standing p.present p.clearance ∷ p.roles.low ∷ p.roles.high ∷ [];
}

abbrev pub people : Part Person
people = part_of person_rows 768

-- An assign rule is six words: the administrative role, the positive set, the negative set and the target. There is room for 256.
abbrev pub assign_rows : Rows Assign
assign_rows = record {
  width = 6;
  says = λ words at. record { admin = get_or words at 0; positive = set_said words (at + 1) (at + 2); negative = set_said words (at + 3) (at + 4); target = get_or words (at + 5) 0 };
  row = λ rule. rule.admin ∷ rule.positive.low ∷ rule.positive.high ∷ rule.negative.low ∷ rule.negative.high ∷ rule.target ∷ [];
}

abbrev pub assign_rules : Part Assign
assign_rules = part_of assign_rows 960

-- A revoke rule is two words. There is room for 256.
abbrev pub revoke_rows : Rows Revoke
revoke_rows = record {
  width = 2;
  says = λ words at. record { admin = get_or words at 0; target = get_or words (at + 1) 0 };
  row = λ rule. rule.admin ∷ rule.target ∷ [];
}

abbrev pub revoke_rules : Part Revoke
revoke_rules = part_of revoke_rows 2496

-- A goal is a set. There is room for 32.
abbrev pub set_rows : Rows RoleSet
set_rows = record { width = 2; says = λ words at. set_said words at (at + 1); row = λ goal. goal.low ∷ goal.high ∷ [] }

abbrev pub goal_sets : Part RoleSet
goal_sets = part_of set_rows 3008
