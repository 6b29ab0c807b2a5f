-- A set that is written over the names of a policy is a set field, and is read back as the set.
use Rattle.std.specs.Prelude.{ℕ, suc, ◌≤◌, ◌<◌, Bool, false, cond, ◌&&◌, ◌≡◌, refl, length}
use Rattle.std.proofs.Math.Bool.{true, not}
use Rattle.std.proofs.lemmas.Bool.{false≢true}
use mathlib.Core.List.{List, ◌∷◌}
use Rattle.std.proofs.Common.{sym, subst, ◌∙◌, arith}
use Rattle.std.proofs.Math.Path.{ap, ap₂}
use borrow.Author.Tests.{lt-ltb}
use Rattle.std.proofs.Math.Decide.{ℕ_discrete}
use Rattle.roles.specs.declared.RoleSet.{RoleSet}
use Rattle.roles.specs.Sets.{has_role, empty_set, with_of}
use Rattle.roles.specs.Members.{◌∈◌, Sized}
use Rattle.roles.specs.MemberLaws.{with_new_lem, same_members, below as role-below}
use Rattle.tables.specs.declared.Name.{Name}
use Rattle.text.specs.Forms.{every, is_name, is_set, names_of}
use Rattle.text.specs.Pieces.{repeated}
use Rattle.fields.specs.Fields.{placed, is_declared, all_declared, roles_from, roles_of}
use Rattle.writing.specs.Written.{spelled}
use Rattle.spelling.specs.TypingText.{names_from, set_text}
use Rattle.fields.specs.Roles.{roles_sized, role_kept, role_passes, Inside}
use Rattle.rereading.specs.Cuts.{free}
use Rattle.rereading.specs.Joined.{names-back, Apart, free_joined}
use Rattle.tables.specs.Named.{Named}
use Rattle.rereading.specs.Standing.{Standing, none, more, standing, spelled_form, spelled-placed, each_written, written_once}

-- each role of the set is at the place of a name that is written
each_its : (table : List Name) (set acc : RoleSet) {role : ℕ} {rest : List Name} → Standing table role rest → {r : ℕ} → r ∈ set → role ≤ r → r < length table → r ∈ roles_from table acc (names_from role set rest)
unfolding names_from roles_from
each_its table set acc (none last) found from to = absurd (omega arith)
each_its table set acc (more {role} {name} {rest} spelt at below) {r} found from to = go (λ s h. each_its table set s below found h to) (has_role set role) refl (ℕ_discrete r role)
  where
    place : placed table (spelled name) ≡ role
    place = spelled-placed table spelt ∙ at

    go : ((s : RoleSet) → suc role ≤ r → r ∈ roles_from table s (names_from (suc role) set rest))
        → (b : Bool) → has_role set role ≡ b → Dec (r ≡ role) → r ∈ roles_from table acc (cond b (spelled name ∷ names_from (suc role) set rest) (names_from (suc role) set rest))
    go later true has (yes own) =
        role_kept table (names_from (suc role) set rest)
        (subst (λ (k : ℕ). r ∈ with_of acc k) (own ∙ sym place) (with_new_lem acc (role-below found)))
    go later true has (no other) = later (with_of acc (placed table (spelled name))) (omega arith)
    go later false has (yes own) = absurd (false≢true (sym has ∙ ap (has_role set) (sym own) ∙ found.found))
    go later false has (no other) = later acc (omega arith)

-- ---- the field

module _ {names : List Name} (named : Named names) (set : RoleSet) where
  -- the names that are written are names, and the field's names
  all_names : every is_name (names_from 0 set names) ≡ true
  all_names = each_written names set is_name (λ name spelt here has. spelled_form spelt) (standing named)

  field_names_lem : names_of (set_text names set) ≡ names_from 0 set names
  unfolding set_text
  field_names_lem = names-back (names_from 0 set names) all_names

  -- It is a set of names,
  pub set_form : is_set (set_text names set) ≡ true
  unfolding is_set
  set_form = ap (λ (l : List (List ℕ)). every is_name l && not (repeated l)) field_names_lem ∙ ap₂ (λ (a b : Bool). a && not b) all_names (written_once names set (standing named))

  -- all of them declared,
  pub set_declared : all_declared names (set_text names set) ≡ true
  unfolding all_declared is_declared
  set_declared =
      ap (every (is_declared names)) field_names_lem
      ∙ each_written names set (is_declared names) (λ name spelt here has. lt-ltb (placed names (spelled name)) (length names) (omega (arith, spelled-placed names spelt, here))) (standing named)

  -- without tab and LF,
  pub set_free : {mark : ℕ} → Apart mark → free mark (set_text names set) ≡ true
  unfolding set_text
  set_free apart = free_joined apart (names_from 0 set names) all_names

  -- and its roles are the set.
  pub set_back : Inside (length names) set → roles_of names (set_text names set) ≡ set
  unfolding roles_of
  set_back inside =
      ap (roles_from names empty_set) field_names_lem
      ∙ same_members sized inside.sized (record { every = λ found. record { found = role_passes names (has_role set) (names_from 0 set names) its found } })
      (record { every = λ found. each_its names set empty_set (standing named) found (omega arith) (inside.below found) })
    where
      its : every (λ field. has_role set (placed names field)) (names_from 0 set names) ≡ true
      its = each_written names set (λ field. has_role set (placed names field)) (λ name spelt here has. ap (has_role set) (spelled-placed names spelt) ∙ has.found) (standing named)

      sized : Sized (roles_from names empty_set (names_from 0 set names))
      sized = subst (λ (l : List (List ℕ)). Sized (roles_from names empty_set l)) field_names_lem (roles_sized names (set_text names set))
