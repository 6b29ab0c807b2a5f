-- A role added to the set of each member, from the lowest on: what a column holds while members are left, and in the end.
use Rattle.std.specs.Prelude.{ℕ, Bool, cond, ◌&&◌, List, ◌≡◌}
use Rattle.std.proofs.Math.Bool.{true, false, not, and-true, and-eq-true_iff}
use Rattle.std.proofs.Math.Path.{refl, ap, ap₂, subst⁻¹}
use Rattle.std.proofs.Common.{sym, ◌∙◌}
use borrow.Author.Tests.{eqb-true, eqb-false, eq-eqb, ne_eqb}
use Rattle.std.proofs.Math.Dec.{eqb}
use Rattle.roles.specs.declared.RoleSet.{RoleSet}
use Rattle.roles.specs.Sets.{has_role, single_of, with_of}
use Rattle.roles.specs.MemberLaws.{has_without, lowest_none}
use Rattle.sheets.specs.declared.Column.{Column}
use Rattle.sheets.specs.Turned.{add_if}
use Rattle.sheets.specs.Words.{set_in}
use Rattle.sheets.specs.Places.{Changed}
use Rattle.roles.specs.Taking.{TakenRole, TakenNone, taken_held}

-- the members that are not left have the role in their sets, and all else is as at entry
pub record Noted (column : Column) (role : ℕ) (members left : RoleSet) (entry sheet : List ℕ) : Type 0 where
  pub within : (other : ℕ) → has_role left other ≡ true → has_role members other ≡ true
  pub changed : Changed column (λ other. add_if (has_role members other && not (has_role left other)) (single_of role)) entry sheet

and_not_self : (b : Bool) → (b && not b) ≡ false
and_not_self true = refl
and_not_self false = refl

pub noted_start : (column : Column) (role : ℕ) (members : RoleSet) (entry : List ℕ) → Noted column role members members entry entry
unfolding add_if
noted_start column role members entry = record {
  within = λ other held. held;
  changed = record {
    size = refl;
    own = λ other. sym (ap (λ (b : Bool). add_if b (single_of role) (set_in entry column other)) (and_not_self (has_role members other)));
    rest = λ other differs k. refl;
  };
}

module _ {column : Column} {role : ℕ} {members left : RoleSet} {entry sheet : List ℕ} (so_far : Noted column role members left entry sheet) where
  pub noted_end : {rest : RoleSet} → TakenNone left rest → Changed column (λ k. add_if (has_role members k) (single_of role)) entry sheet
  noted_end last = record {
    size = so_far.changed.size;
    own = λ k.
        let gone = ap (λ (b : Bool). has_role members k && not b) (lowest_none left last.none k) ∙ and-true (has_role members k) in
        so_far.changed.own k ∙ ap (λ (b : Bool). add_if b (single_of role) (set_in entry column k)) gone;
    rest = so_far.changed.rest;
  }

  module _ (next : List ℕ) {other : ℕ} {rest named : RoleSet} (taken : TakenRole left other rest) (grown : named ≡ with_of (set_in sheet column other) role)
      (written : Changed column (λ k old. cond (eqb k other) named old) sheet next) where
    held : has_role left other ≡ true
    held = taken_held left taken.lowest taken.fits

    stays : (k : ℕ) → has_role rest k ≡ (has_role left k && not (eqb other k))
    stays k = ap (λ (s : RoleSet). has_role s k) taken.rest_is ∙ has_without left other k taken.fits

    -- what the record says of one role
    Right : ℕ → Type 0
    Right k = set_in next column k ≡ add_if (has_role members k && not (has_role rest k)) (single_of role) (set_in entry column k)

    own_right : Right other
    unfolding Right add_if with_of
    own_right =
        let gone = stays other ∙ ap₂ (λ (a b : Bool). a && not b) held (eq-eqb other other refl) in
        rw (written.own other, eq-eqb other other refl, grown, so_far.changed.own other, held, so_far.within other held, gone)

    other_right : (k : ℕ) → (k ≡ other → ⊥) → Right k
    unfolding Right
    other_right k differs =
        let kept = stays k ∙ ap (λ (b : Bool). has_role left k && not b) (ne_eqb other k (λ e. differs (sym e))) ∙ and-true (has_role left k) in
        rw (written.own k, ne_eqb k other differs, kept) (so_far.changed.own k)

    pub noted_step : Noted column role members rest entry next
    unfolding Right
    noted_step = record {
      within = λ k h. so_far.within k ((and-eq-true_iff (has_role left k) (not (eqb other k))).0 (sym (stays k) ∙ h)).0;
      changed = record {
        size = written.size ∙ so_far.changed.size;
        own = λ k. go k (eqb k other) refl;
        rest = λ k differs at. written.rest k differs at ∙ so_far.changed.rest k differs at;
      };
    }
      where
        go : (k : ℕ) (b : Bool) → eqb k other ≡ b → Right k
        go k true e = subst⁻¹ Right (eqb-true k other e) own_right
        go k false e = other_right k (eqb-false k other e)
