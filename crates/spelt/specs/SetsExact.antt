-- A set field is read exactly when it is spelt so.
use Rattle.std.specs.Prelude.{ℕ, ◌≤◌, Bool, true, ◌&&◌, ◌≡◌, length}
use Rattle.std.proofs.Math.Bool.{not, and-eq-true_iff}
use mathlib.Core.List.{List, map, Memᴰ as Listed}
use Rattle.std.proofs.Common.{ap, subst, ◌∙◌}
use Rattle.std.proofs.Math.Path.{ap₂, subst⁻¹}
use borrow.Author.Tests.{not-true}
use Rattle.roles.specs.declared.RoleSet.{RoleSet}
use Rattle.roles.specs.MemberLaws.{same_members}
use Rattle.tables.specs.Names.{packed}
use Rattle.text.specs.Forms.{every, is_name, is_set, names_of}
use Rattle.text.specs.Pieces.{repeated}
use Rattle.spelling.specs.NamesJoined.{names-joined}
use Rattle.fields.specs.Fields.{all_declared, roles_of}
use Rattle.fields.specs.Roles.{roles_sized}
use Rattle.rereading.specs.Joined.{names-back}
use Rattle.spelt.specs.Names.{Names, RoleOf}
use Rattle.spelt.specs.NamesExact.{listed_passes, every_exact, all_declared_exact, roles_exact}
use Rattle.spelt.specs.Sets.{SetSpelt}

module _ {names : List (List ℕ)} (all : Names names) (few : length names ≤ 128) {field : List ℕ} where
  -- ---- what is read is spelt so

  pub set_read_lem : is_set field ≡ true → all_declared (map packed names) field ≡ true → SetSpelt names field (roles_of (map packed names) field)
  unfolding is_set
  set_read_lem form known =
      let parts = (and-eq-true_iff (every is_name (names_of field)) (not (repeated (names_of field)))).0 form in
      record {
        written = names_of field;
        joining = names-joined field;
        single = not-true (repeated (names_of field)) parts.1;
        declared = (all_declared_exact all field parts.0).0 known;
        roles = roles_exact all field parts.0 few known;
        sized = roles_sized (map packed names) field;
      }

  -- ---- what is spelt so is read

  module _ {set : RoleSet} (spelt : SetSpelt names field set) where
    -- The names that are written are names,
    pub written_forms : every is_name spelt.written ≡ true
    written_forms = (every_exact is_name spelt.written).1 (λ name m. listed_passes is_name all.forms (spelt.declared name m))

    -- and the names of the field.
    pub written-names : names_of field ≡ spelt.written
    written-names = ap names_of spelt.joining ∙ names-back spelt.written written_forms

    names_forms : every is_name (names_of field) ≡ true
    names_forms = ap (every is_name) written-names ∙ written_forms

    -- The field is a set,
    pub set_form : is_set field ≡ true
    unfolding is_set
    set_form = ap₂ (λ (a b : Bool). a && not b) names_forms (ap repeated written-names ∙ spelt.single)

    -- all its names are declared,
    pub set_declared : all_declared (map packed names) field ≡ true
    set_declared = (all_declared_exact all field names_forms).1 (λ name m. spelt.declared name (subst (Listed name) written-names m))

    -- and its roles are the set.
    pub set_is : roles_of (map packed names) field ≡ set
    set_is =
        let exact = roles_exact all field names_forms few set_declared in
        same_members (roles_sized (map packed names) field) spelt.sized
        (record { every = λ {role} found. (spelt.roles role).1 (subst (λ (l : List (List ℕ)). RoleOf names l role) written-names ((exact role).0 found)) })
        (record { every = λ {role} found. (exact role).1 (subst⁻¹ (λ (l : List (List ℕ)). RoleOf names l role) written-names ((spelt.roles role).0 found)) })
