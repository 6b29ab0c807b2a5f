-- The roles of a set field: those at the places of its names, and no other; so all of them are below the number of names.
use Rattle.std.specs.Prelude.{ℕ, Bool, ◌⊎◌, ◌≡◌, ltb, length}
use Rattle.std.proofs.Math.Bool.{true, and-eq-true_iff}
use mathlib.Core.List.{List, [], ◌∷◌}
use Rattle.std.proofs.Math.Logic.{inl, inr}
use Rattle.std.proofs.Common.{ap, ◌∙◌, ltb-true}
use Rattle.roles.specs.declared.RoleSet.{RoleSet}
use Rattle.roles.specs.Sets.{empty_set, with_of}
use Rattle.roles.specs.Members.{◌∈◌, Sized}
use Rattle.roles.specs.MemberLaws.{with_cases, with_old, empty_none, empty_sized, with_sized}
use Rattle.tables.specs.declared.Name.{Name}
use Rattle.text.specs.Forms.{every, names_of}
use Rattle.fields.specs.Fields.{placed, is_declared, all_declared, roles_from, roles_of}
pub use Rattle.fields.specs.Insides.{Inside}

module _ (names : List Name) where
  -- A role that is in the set stays in it.
  pub role_kept : {s : RoleSet} (fields : List (List ℕ)) {role : ℕ} → role ∈ s → role ∈ roles_from names s fields
  unfolding roles_from
  role_kept [] found = found
  role_kept {s = s} (field ∷ rest) {role = role} found = role_kept {s = with_of s (placed names field)} rest (with_old (placed names field) found)

  -- any other is at the place of a name, so it passes a test that all the places pass
  role_cases : (test : ℕ → Bool) (s : RoleSet) (fields : List (List ℕ)) → every (λ field. test (placed names field)) fields ≡ true → {role : ℕ} → role ∈ roles_from names s fields → (role ∈ s) ⊎ (test role ≡ true)
  unfolding roles_from every
  role_cases test s [] passed found = inl found
  role_cases test s (field ∷ rest) passed {role} found =
      let parts = (and-eq-true_iff (test (placed names field)) (every (λ f. test (placed names f)) rest)).0 passed in
      go parts.0 (role_cases test (with_of s (placed names field)) rest parts.1 found)
    where
      new : test (placed names field) ≡ true → (role ∈ s) ⊎ (role ≡ placed names field) → (role ∈ s) ⊎ (test role ≡ true)
      new here (inl old) = inl old
      new here (inr is) = inr (ap test is ∙ here)

      go : test (placed names field) ≡ true → (role ∈ with_of s (placed names field)) ⊎ (test role ≡ true) → (role ∈ s) ⊎ (test role ≡ true)
      go here (inl more) = new here (with_cases s (placed names field) more)
      go here (inr later) = inr later

  -- Every role of a field passes a test that the places of all its names pass.
  pub role_passes : (test : ℕ → Bool) (fields : List (List ℕ)) → every (λ field. test (placed names field)) fields ≡ true → {role : ℕ} → role ∈ roles_from names empty_set fields → test role ≡ true
  role_passes test fields passed found = go (role_cases test empty_set fields passed found)
    where
      go : {role : ℕ} → (role ∈ empty_set) ⊎ (test role ≡ true) → test role ≡ true
      go (inl none) = absurd (empty_none none)
      go (inr passes) = passes

-- ---- words of 64 bits, and roles below a number

-- a set with the roles of names
from_sized : (names : List Name) (s : RoleSet) (fields : List (List ℕ)) → Sized s → Sized (roles_from names s fields)
unfolding roles_from
from_sized names s [] sized = sized
from_sized names s (name ∷ rest) sized = from_sized names (with_of s (placed names name)) rest (with_sized (placed names name) sized)

-- The roles of a set field.
pub roles_sized : (names : List Name) (field : List ℕ) → Sized (roles_of names field)
unfolding roles_of
roles_sized names field = from_sized names empty_set (names_of field) empty_sized

-- the roles of a set field whose names are declared
pub roles_inside : (names : List Name) (field : List ℕ) → all_declared names field ≡ true → Inside (length names) (roles_of names field)
unfolding roles_of all_declared is_declared
roles_inside names field known = record {
  sized = roles_sized names field;
  below = λ {role} found. ltb-true role (length names) (role_passes names (λ place. ltb place (length names)) (names_of field) known found);
}
