-- Where the sets of a sheet stand: what changes where one is put, past the last role, and where the words are all 0.
use Rattle.std.specs.Prelude.{ℕ, ◌+◌, ◌*◌, ◌≤◌, ◌<◌, Bool, true, false, cond, List, ◌≡◌, refl, ◌≢◌, eqb, length, get_or, set, replicate}
use Rattle.std.proofs.Common.{ap, ◌∙◌, eqb-true, get_or-set_other, arith}
use Rattle.std.proofs.lemmas.Bool.{eqb-false}
use Rattle.std.proofs.Math.ListN.{length-set, get_or-eq_default}
use Rattle.std.proofs.lemmas.List.{length-replicate, get_or-replicate}
use Rattle.std.proofs.Math.Seq.{get_or-set_same}
use Rattle.std.proofs.Math.Decide.{dec_lt}
use Rattle.roles.specs.declared.RoleSet.{RoleSet}
use Rattle.roles.specs.Sets.{empty_set}
use Rattle.sheets.specs.declared.Column.{Column}
use Rattle.sheets.specs.Words.{column_number, place_of, set_at, set_in}

-- a column is one of four
pub column_range : (column : Column) → (1 ≤ column_number column) × (column_number column ≤ 4)
column_range Column.Plus = (omega arith, omega arith)
column_range Column.Minus = (omega arith, omega arith)
column_range Column.Needed = (omega arith, omega arith)
column_range Column.Opposed = (omega arith, omega arith)

-- In one column each role's set is what becomes of it, and the other columns are as before.
pub record Changed (column : Column) (becomes : ℕ → RoleSet → RoleSet) (entry exit : List ℕ) : Type 0 where
  pub size : length exit ≡ length entry
  pub own : (role : ℕ) → set_in exit column role ≡ becomes role (set_in entry column role)
  pub rest : (other : Column) → eqb (column_number other) (column_number column) ≡ false → (role : ℕ) → set_in exit other role ≡ set_in entry other role

-- two words that are written are the set at a place, and the other sets stay
module _ (sheet : List ℕ) (place : ℕ) (s : RoleSet) where
  abbrev half : List ℕ
  half = set sheet (2 * place) s.low

  abbrev pub written : List ℕ
  written = set half (2 * place + 1) s.high

  pub put_own : 2 * place + 1 < length sheet → set_at written place ≡ s
  unfolding set_at
  put_own fits = λ i. record {
    low = (get_or-set_other half (2 * place + 1) (2 * place) s.high 0 (omega arith) ∙ get_or-set_same sheet (2 * place) s.low 0 (omega arith)) i;
    high = get_or-set_same half (2 * place + 1) s.high 0 (omega (arith, length-set sheet (2 * place) s.low)) i;
  }

  put_other : (k : ℕ) → k ≢ 2 * place → k ≢ 2 * place + 1 → get_or written k 0 ≡ get_or sheet k 0
  put_other k first second = get_or-set_other half (2 * place + 1) k s.high 0 second ∙ get_or-set_other sheet (2 * place) k s.low 0 first

  pub put_rest : (other : ℕ) → other ≢ place → set_at written other ≡ set_at sheet other
  unfolding set_at
  put_rest other differs = λ i. record { low = put_other (2 * other) (omega arith) (omega arith) i; high = put_other (2 * other + 1) (omega arith) (omega arith) i }

  pub put_size : length written ≡ length sheet
  put_size = length-set half (2 * place + 1) s.high ∙ length-set sheet (2 * place) s.low

-- a role's set put into a column
pub put-changed : (sheet : List ℕ) (column : Column) (role : ℕ) (s : RoleSet) → 2 * place_of column role + 1 < length sheet
    → Changed column (λ other old. cond (eqb other role) s old) sheet (written sheet (place_of column role) s)
unfolding place_of set_in
put-changed sheet column role s fits = record {
  size = put_size sheet (place_of column role) s;
  own = λ other. go other (eqb other role) refl;
  rest = λ other e k.
      let differs = eqb-false (column_number other) (column_number column) e in
      let one = column_range other in
      let two = column_range column in
      put_rest sheet (place_of column role) s (place_of other k) (omega (arith, one.0, one.1, two.0, two.1));
}
  where
    go : (other : ℕ) (b : Bool) → eqb other role ≡ b → set_in (written sheet (place_of column role) s) column other ≡ cond b s (set_in sheet column other)
    go other true e = ap (set_in (written sheet (place_of column role) s) column) (eqb-true other role e) ∙ put_own sheet (place_of column role) s fits
    go other false e =
        let differs : other ≢ role = eqb-false other role e in
        put_rest sheet (place_of column role) s (place_of column other) (omega arith)

-- past the words there is no set
pub past_sheet : (sheet : List ℕ) (place : ℕ) → length sheet ≤ 2 * place → set_at sheet place ≡ empty_set
unfolding set_at empty_set
past_sheet sheet place past =
    λ i. record { low = get_or-eq_default sheet 0 {n = 2 * place} past i; high = get_or-eq_default sheet 0 {n = 2 * place + 1} (omega arith) i }

-- words that are all 0 hold no role
blank_word : (n k : ℕ) → get_or {A = ℕ} (replicate n 0) k 0 ≡ 0
blank_word n k = go (dec_lt k n)
  where
    go : Dec (k < n) → get_or {A = ℕ} (replicate n 0) k 0 ≡ 0
    go (yes h) = get_or-replicate n k 0 0 h
    go (no h) = get_or-eq_default (replicate n 0) 0 (omega (arith, length-replicate {A = ℕ} n 0))

pub blank_sheet : (n place : ℕ) → set_at (replicate n 0) place ≡ empty_set
unfolding set_at empty_set
blank_sheet n place = λ i. record { low = blank_word n (2 * place) i; high = blank_word n (2 * place + 1) i }
