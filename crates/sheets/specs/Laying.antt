-- A typing laid out role by role: a sheet with no role in it, one role more, and all of them.
use Rattle.std.specs.Prelude.{ℕ, suc, ◌+◌, ◌<◌, min, Bool, true, false, cond, List, ◌≡◌, ltb, eqb, length, replicate}
use Rattle.std.proofs.Math.Path.{refl, ap}
use Rattle.std.proofs.Common.{sym, ◌∙◌, lt-ltb, le-ltb, eqb-true, add-one, arith}
use Rattle.std.proofs.lemmas.Bool.{eqb-false}
use Rattle.std.proofs.Math.Decide.{dec_lt}
use Rattle.roles.specs.declared.RoleSet.{RoleSet}
use Rattle.roles.specs.Sets.{empty_set, has_role, single_of}
use Rattle.model.specs.declared.Typing.{Typing as Table}
use Rattle.model.specs.Meaning.{meaning}
use Rattle.sheets.specs.declared.Column.{Column}
use Rattle.sheets.specs.Turned.{add_if, roles_below, own_below, named_below, turned_of}
use Rattle.sheets.specs.Words.{place_of, set_at, set_in, said_in, sheet_of}
use Rattle.sheets.specs.Places.{Changed, blank_sheet, written, put_own, put_rest, put_size}
use Rattle.sheets.specs.Whole.{sheet_whole}

-- The rows of a sheet, and a set of roles labelled H, are what a typing says of the roles below a number.
pub record LaidBelow (t : Table) (bound : ℕ) (sheet : List ℕ) (high : RoleSet) : Type 0 where
  pub size : length sheet ≡ 1026
  pub plus : (role : ℕ) → set_in sheet Column.Plus role ≡ own_below bound (meaning t).plus role
  pub minus : (role : ℕ) → set_in sheet Column.Minus role ≡ own_below bound (meaning t).minus role
  pub needed : (role : ℕ) → set_in sheet Column.Needed role ≡ named_below bound (meaning t).plus role
  pub opposed : (role : ℕ) → set_in sheet Column.Opposed role ≡ named_below bound (meaning t).minus role
  pub labelled : high ≡ roles_below bound (meaning t).label

-- ---- no role

pub laid_start : (t : Table) {high : RoleSet} → high ≡ empty_set → LaidBelow t 0 (replicate 1026 0) high
unfolding own_below named_below roles_below set_in
laid_start t none = record {
  size = refl;
  plus = λ role. blank_sheet 1026 (place_of Column.Plus role) ∙ nothing (meaning t).plus role;
  minus = λ role. blank_sheet 1026 (place_of Column.Minus role) ∙ nothing (meaning t).minus role;
  needed = λ role. blank_sheet 1026 (place_of Column.Needed role);
  opposed = λ role. blank_sheet 1026 (place_of Column.Opposed role);
  labelled = none;
}
  where
    nothing : (own : ℕ → RoleSet) (role : ℕ) → empty_set ≡ cond (ltb role 0) (own role) empty_set
    nothing own role = sym (ap (λ (b : Bool). cond b (own role) empty_set) (le-ltb role 0 (omega arith)))

-- ---- one role more

own_more : (own : ℕ → RoleSet) (role k : ℕ) → cond (eqb k role) (own role) (own_below role own k) ≡ own_below (suc role) own k
unfolding own_below
own_more own role k = go (eqb k role) refl (dec_lt k role)
  where
    go : (b : Bool) → eqb k role ≡ b → Dec (k < role) → cond b (own role) (own_below role own k) ≡ own_below (suc role) own k
    go true e d =
        let same = eqb-true k role e in
        sym (ap (λ (b : Bool). cond b (own k) empty_set) (lt-ltb k (suc role) (omega arith)) ∙ ap own same)
    go false e (yes lt) = ap (λ (b : Bool). cond b (own k) empty_set) (lt-ltb k role lt ∙ sym (lt-ltb k (suc role) (omega arith)))
    go false e (no nl) =
        let differs = eqb-false k role e in
        ap (λ (b : Bool). cond b (own k) empty_set) (le-ltb k role (omega arith) ∙ sym (le-ltb k (suc role) (omega arith)))

module _ {t : Table} {role : ℕ} {sheet : List ℕ} {high : RoleSet} (so_far : LaidBelow t role sheet high) where
  pub laid_step : {one two three four : List ℕ} {more : RoleSet}
      → Changed Column.Plus (λ k old. cond (eqb k role) ((meaning t).plus role) old) sheet one
      → Changed Column.Minus (λ k old. cond (eqb k role) ((meaning t).minus role) old) one two
      → Changed Column.Needed (λ k. add_if (has_role ((meaning t).plus role) k) (single_of role)) two three
      → Changed Column.Opposed (λ k. add_if (has_role ((meaning t).minus role) k) (single_of role)) three four
      → more ≡ add_if ((meaning t).label role) (single_of role) high → LaidBelow t (role + 1) four more
  unfolding named_below roles_below
  laid_step a b c d labels = rw (add-one role) (record {
    size = d.size ∙ c.size ∙ b.size ∙ a.size ∙ so_far.size;
    plus = λ k.
        d.rest Column.Plus refl k ∙ c.rest Column.Plus refl k ∙ b.rest Column.Plus refl k ∙ a.own k
        ∙ ap (cond (eqb k role) ((meaning t).plus role)) (so_far.plus k) ∙ own_more (meaning t).plus role k;
    minus = λ k.
        d.rest Column.Minus refl k ∙ c.rest Column.Minus refl k ∙ b.own k
        ∙ ap (cond (eqb k role) ((meaning t).minus role)) (a.rest Column.Minus refl k ∙ so_far.minus k) ∙ own_more (meaning t).minus role k;
    needed = λ k.
        d.rest Column.Needed refl k ∙ c.own k
        ∙ ap (add_if (has_role ((meaning t).plus role) k) (single_of role)) (b.rest Column.Needed refl k ∙ a.rest Column.Needed refl k ∙ so_far.needed k);
    opposed = λ k.
        d.own k
        ∙ ap (add_if (has_role ((meaning t).minus role) k) (single_of role)) (c.rest Column.Opposed refl k ∙ b.rest Column.Opposed refl k ∙ a.rest Column.Opposed refl k ∙ so_far.opposed k);
    labelled = labels ∙ ap (add_if ((meaning t).label role) (single_of role)) so_far.labelled;
  })

  -- ---- all of them, and the roles labelled H at their place

  laid_said : (roles : ℕ) → role ≡ min roles 128 → said_in (written sheet 0 high) ≡ turned_of t roles
  unfolding said_in turned_of set_at set_in place_of
  laid_said roles all = λ i. record {
    plus = λ k. (put_rest sheet 0 high (place_of Column.Plus k) (omega arith) ∙ so_far.plus k ∙ ap (λ (n : ℕ). own_below n (meaning t).plus k) all) i;
    minus = λ k. (put_rest sheet 0 high (place_of Column.Minus k) (omega arith) ∙ so_far.minus k ∙ ap (λ (n : ℕ). own_below n (meaning t).minus k) all) i;
    needed = λ k. (put_rest sheet 0 high (place_of Column.Needed k) (omega arith) ∙ so_far.needed k ∙ ap (λ (n : ℕ). named_below n (meaning t).plus k) all) i;
    opposed = λ k. (put_rest sheet 0 high (place_of Column.Opposed k) (omega arith) ∙ so_far.opposed k ∙ ap (λ (n : ℕ). named_below n (meaning t).minus k) all) i;
    high = (put_own sheet 0 high (omega (arith, so_far.size)) ∙ so_far.labelled ∙ ap (λ (n : ℕ). roles_below n (meaning t).label) all) i;
  }

  pub laid_end : (roles : ℕ) → role ≡ min roles 128 → (written sheet 0 high ≡ sheet_of t roles) × (said_in (written sheet 0 high) ≡ turned_of t roles)
  laid_end roles all =
      let said = laid_said roles all in
      (sheet_whole t roles (written sheet 0 high) (put_size sheet 0 high ∙ so_far.size) said, said)
