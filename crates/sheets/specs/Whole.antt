-- A whole sheet: its words are determined by what it says.
use Prim.Native.Nat.{ℕ, zero, suc, ◌+◌, ◌*◌}
use Rattle.std.specs.Prelude.{List, [], ◌∷◌, ◌≡◌, length, get_or}
use Rattle.std.proofs.Math.Path.{refl, ap}
use Rattle.std.proofs.Common.{sym, ◌∙◌, arith}
use Rattle.roles.specs.declared.RoleSet.{RoleSet}
use Rattle.model.specs.declared.Typing.{Typing as Table}
use Rattle.sheets.specs.Turned.{Turned, turned_of}
use Rattle.sheets.specs.Words.{place_of, set_at, set_in, said_in, rows_from, placed, words_of, sheet_of}

-- the sets after the first
after_first : (low high : ℕ) (words : List ℕ) (place : ℕ) → set_at (low ∷ high ∷ words) (suc place) ≡ set_at words place
unfolding set_at
after_first low high words place =
    let first : 2 * suc place ≡ suc (suc (2 * place)) = omega arith in
    let second : 2 * suc place + 1 ≡ suc (suc (2 * place + 1)) = omega arith in
    λ i. record { low = get_or (low ∷ high ∷ words) (first i) 0; high = get_or (low ∷ high ∷ words) (second i) 0 }

-- words are those of the sets that they hold
words_whole : (count : ℕ) (words : List ℕ) → length words ≡ 2 * count → words ≡ words_of (set_at words) count
unfolding words_of set_at
words_whole zero [] size = refl
words_whole zero (low ∷ words) size = absurd (omega (arith, size))
words_whole (suc count) [] size = absurd (omega (arith, size))
words_whole (suc count) (low ∷ []) size = absurd (omega (arith, size))
words_whole (suc count) (low ∷ high ∷ words) size =
    ap (λ (rest : List ℕ). low ∷ high ∷ rest)
    (words_whole count words (omega (arith, size)) ∙ ap (λ (sets : ℕ → RoleSet). words_of sets count) (λ i place. sym (after_first low high words place) i))

module _ (sheet : List ℕ) where
  rows_in_lem : (role place : ℕ) → set_at sheet (4 * role + suc place) ≡ rows_from (said_in sheet) role place
  unfolding rows_from said_in set_in place_of
  rows_in_lem role zero = refl
  rows_in_lem role (suc zero) = refl
  rows_in_lem role (suc (suc zero)) = refl
  rows_in_lem role (suc (suc (suc zero))) = refl
  rows_in_lem role (suc (suc (suc (suc place)))) = ap (set_at sheet) (omega arith) ∙ rows_in_lem (suc role) place

  placed_in : (place : ℕ) → set_at sheet place ≡ placed (said_in sheet) place
  unfolding placed said_in set_at
  placed_in zero = refl
  placed_in (suc place) = ap (set_at sheet) (omega arith) ∙ rows_in_lem 0 place

-- A sheet that says what a typing says is the sheet of that typing.
pub sheet_whole : (t : Table) (roles : ℕ) (sheet : List ℕ) → length sheet ≡ 1026 → said_in sheet ≡ turned_of t roles → sheet ≡ sheet_of t roles
unfolding sheet_of
sheet_whole t roles sheet size said =
    words_whole 513 sheet (omega (arith, size)) ∙ ap (λ (sets : ℕ → RoleSet). words_of sets 513) (λ i place. placed_in sheet place i)
    ∙ ap (λ (w : Turned). words_of (placed w) 513) said
