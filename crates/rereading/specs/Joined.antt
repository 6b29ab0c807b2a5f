-- A set field that is written from names gives back those names, and has no mark that is not a comma, a dash or a name's byte.
use Rattle.std.specs.Prelude.{ℕ, ◌≤◌, Bool, true, false, cond, ◌&&◌, ◌≡◌, refl, leb, length}
use Rattle.std.proofs.Math.Bool.{and-eq-true_iff}
use Rattle.std.proofs.lemmas.Bool.{false≢true}
use mathlib.Core.List.{List, [], ◌∷◌, ◌++◌, append_assoc, append-nil}
use Rattle.std.proofs.Common.{sym, ap, ap₂, ◌∙◌, ne_eqb, arith}
use Rattle.text.specs.Forms.{bytes, every, between, name_byte, is_name, names_of}
use Rattle.text.specs.FormLaws.{name_byte_range}
use Rattle.text.specs.Pieces.{split, same_bytes}
use Rattle.spelling.specs.TypingText.{joined_after, joined}
use Rattle.rereading.specs.Cuts.{free, cut_first, cut_last, free_join, free_name}

-- ---- the names again

-- a name has no comma
free_comma : (name : List ℕ) → is_name name ≡ true → free 44 name ≡ true
unfolding name_byte between
free_comma name form = free_name 44 name refl form

-- so it is cut off at the comma after it,
comma_cut : (name next : List ℕ) → is_name name ≡ true → split 44 (name ++ bytes "," ++ next) ≡ name ∷ split 44 next
comma_cut name next form = ap (split 44) (append_assoc name (bytes ",") next) ∙ cut_first 44 name next (free_comma name form)

-- and so are all that are joined
after-split : (name : List ℕ) (more : List (List ℕ)) → is_name name ≡ true → every is_name more ≡ true → split 44 (joined_after name more) ≡ name ∷ more
unfolding joined_after every
after-split name [] form forms = cut_last 44 name (free_comma name form)
after-split name (next ∷ more) form forms =
    let parts = (and-eq-true_iff (is_name next) (every is_name more)).0 forms in
    comma_cut name (joined_after next more) form ∙ ap (λ (l : List (List ℕ)). name ∷ l) (after-split next more parts.0 parts.1)

-- what begins with a name is no dash
not_dash : (name rest : List ℕ) → is_name name ≡ true → same_bytes (name ++ rest) (bytes "-") ≡ false
unfolding is_name every same_bytes
not_dash [] rest form = absurd (false≢true form)
not_dash (byte ∷ name) rest form = ap (λ (b : Bool). b && same_bytes (name ++ rest) []) (ne_eqb byte 45 (λ e. absurd (omega (arith, e, range))))
  where
    bytes_good : every name_byte (byte ∷ name) ≡ true
    bytes_good = ((and-eq-true_iff (leb 1 (length (byte ∷ name)) && leb (length (byte ∷ name)) 32) (every name_byte (byte ∷ name))).0 form).1

    range : (48 ≤ byte) × (byte ≤ 122)
    range = name_byte_range byte ((and-eq-true_iff (name_byte byte) (every name_byte name)).0 bytes_good).0

-- so names that are joined are none
after_not_dash : (name : List ℕ) (more : List (List ℕ)) → is_name name ≡ true → same_bytes (joined_after name more) (bytes "-") ≡ false
unfolding joined_after
after_not_dash name [] form = ap (λ (s : List ℕ). same_bytes s (bytes "-")) (sym (append-nil name)) ∙ not_dash name [] form
after_not_dash name (next ∷ more) form =
    ap (λ (s : List ℕ). same_bytes s (bytes "-")) (append_assoc name (bytes ",") (joined_after next more)) ∙ not_dash name (bytes "," ++ joined_after next more) form

-- The names of a set field are those that it was joined from.
pub names-back : (fields : List (List ℕ)) → every is_name fields ≡ true → names_of (joined fields) ≡ fields
unfolding names_of joined every same_bytes
names-back [] forms = refl
names-back (name ∷ more) forms =
    let parts = (and-eq-true_iff (is_name name) (every is_name more)).0 forms in
    ap₂ (λ (b : Bool) (l : List (List ℕ)). cond b [] l) (after_not_dash name more parts.0) (after-split name more parts.0 parts.1)

-- ---- a mark that is no byte of a set field

-- The mark is no byte of a name, no comma and no dash.
pub record Apart (mark : ℕ) : Type 0 where
  pub letter : name_byte mark ≡ false
  pub comma : free mark (bytes ",") ≡ true
  pub dash : free mark (bytes "-") ≡ true

module _ {mark : ℕ} (apart : Apart mark) where
  -- it is in none of the names, and not between them
  free_after : (name : List ℕ) (more : List (List ℕ)) → is_name name ≡ true → every is_name more ≡ true → free mark (joined_after name more) ≡ true
  unfolding joined_after every
  free_after name [] form forms = free_name mark name apart.letter form
  free_after name (next ∷ more) form forms =
      let parts = (and-eq-true_iff (is_name next) (every is_name more)).0 forms in
      let here = free_join mark name (bytes ",") (free_name mark name apart.letter form) apart.comma in
      free_join mark (name ++ bytes ",") (joined_after next more) here (free_after next more parts.0 parts.1)

  -- It is nowhere in the field.
  pub free_joined : (fields : List (List ℕ)) → every is_name fields ≡ true → free mark (joined fields) ≡ true
  unfolding joined every
  free_joined [] forms = apart.dash
  free_joined (name ∷ more) forms =
      let parts = (and-eq-true_iff (is_name name) (every is_name more)).0 forms in
      free_after name more parts.0 parts.1
