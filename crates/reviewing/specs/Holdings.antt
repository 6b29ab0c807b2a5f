-- The has lines of a policy that is written: from users without roles they lead to what each holds, user by user and role by role.
use Prim.Native.Nat.{ℕ, zero, suc, ◌+◌, ◌≤◌, ◌<◌}
use Rattle.std.specs.Prelude.{Bool, cond, ◌≡◌, get_or}
use Rattle.std.proofs.Math.Bool.{true, false, false≢true}
use mathlib.Core.List.{List, [], ◌∷◌, ◌++◌, map, append-nil}
use Rattle.std.proofs.Common.{⊎_elim, ◌∙◌, drop_of_length-le, take-suc, take_all, drop-cons, length-take-le, arith}
use Rattle.std.proofs.Math.Path.{refl, sym, ap, ap₂, subst}
use Rattle.std.proofs.Math.ListN.{length, set, take, drop, length-map, get_or-map}
use Rattle.std.proofs.Math.Seq.{append_snoc, set_at}
use Rattle.std.proofs.lemmas.List.{get_or_at}
use Rattle.std.proofs.Math.Decide.{ℕ_discrete}
use Rattle.roles.specs.declared.RoleSet.{RoleSet}
use Rattle.roles.specs.Sets.{empty_set, has_role, with_of}
use Rattle.roles.specs.Members.{◌∈◌, Sized}
use Rattle.roles.specs.MemberLaws.{same_members, empty_none, empty_sized, with_cases, with_old, with_new_lem, with_sized, absent_test, below as role-below}
use Rattle.model.specs.declared.Assign.{Assign}
use Rattle.model.specs.declared.Revoke.{Revoke}
use Rattle.model.specs.declared.Person.{Person}
use Rattle.model.specs.Policy.{State, nobody, person, with_roles, with_role, granted}
use Rattle.tables.specs.declared.Name.{Name}
use Rattle.tables.specs.Named.{Named}
use Rattle.fields.specs.Roles.{Inside}
use Rattle.steps.proofs.PlaceLaws.{stands_at, at_listed}
use Rattle.lines.specs.declared.Entry.{Entry}
use Rattle.lines.specs.Lines.{has_kind}
use Rattle.reading.specs.Policy.{Said, at_stage, kind_of, noted, added}
use Rattle.reading.specs.Sound.{Sound}
use Rattle.drafting.specs.declared.Block.{Block}
use Rattle.drafting.specs.PolicyText.{held_from, block_size, element, first_of, block_of}
use Rattle.reviewing.specs.Lines.{has_taken}
use Rattle.reviewing.specs.Runs.{Through, through_none, through_join, through_one}

-- What is said, part by part, before its first line.
abbrev pub parts : (roles users : List Name) → State → List Assign → List Revoke → List RoleSet → Said
parts roles users holdings assigns revokes goals = record { stage = 0; roles = roles; users = users; holdings = holdings; assigns = assigns; revokes = revokes; goals = goals }

-- The users with their clearances, and no roles.
abbrev pub without : Person → Person
without p = with_roles p empty_set

-- ---- a set, role by role

-- the roles of a set below a number
record Upto (role : ℕ) (held upto : RoleSet) : Type 0 where
  sized : Sized upto
  its : {r : ℕ} → r ∈ upto → r ∈ held
  low : {r : ℕ} → r ∈ upto → r < role
  all : {r : ℕ} → r ∈ held → r < role → r ∈ upto

-- none, one more, and all
upto_none : {held : RoleSet} → Upto 0 held empty_set
upto_none = record { sized = empty_sized; its = λ found. absurd (empty_none found); low = λ found. absurd (empty_none found); all = λ found under. absurd (omega arith) }

upto_with : {role : ℕ} {held upto : RoleSet} → role ∈ held → Upto role held upto → Upto (suc role) held (with_of upto role)
upto_with {role} {held} {upto} own u = record {
  sized = with_sized role u.sized;
  its = λ {r} found. ⊎_elim u.its (λ same. subst (λ (k : ℕ). k ∈ held) (sym same) own) (with_cases upto role found);
  low = λ {r} found. ⊎_elim (λ old. omega (arith, u.low old)) (λ same. omega (arith, same)) (with_cases upto role found);
  all = λ {r} found under. go r found under (ℕ_discrete r role);
}
  where
    go : (r : ℕ) → r ∈ held → r < suc role → Dec (r ≡ role) → r ∈ with_of upto role
    go r found under (yes same) = subst (λ (k : ℕ). k ∈ with_of upto role) (sym same) (with_new_lem upto (role-below own))
    go r found under (no other) = with_old role (u.all found (omega arith))

upto_skip : {role : ℕ} {held upto : RoleSet} → (role ∈ held → ⊥) → Upto role held upto → Upto (suc role) held upto
upto_skip {role} {held} {upto} none u = record {
  sized = u.sized;
  its = u.its;
  low = λ found. omega (arith, u.low found);
  all = λ {r} found under. go r found under (ℕ_discrete r role);
}
  where
    go : (r : ℕ) → r ∈ held → r < suc role → Dec (r ≡ role) → r ∈ upto
    go r found under (yes same) = absurd (none (subst (λ (k : ℕ). k ∈ held) same found))
    go r found under (no other) = u.all found (omega arith)

upto_all : {role : ℕ} {held upto : RoleSet} → Inside role held → Upto role held upto → upto ≡ held
upto_all inside u = same_members u.sized inside.sized (record { every = u.its }) (record { every = λ found. u.all found (inside.below found) })

-- ---- the lines of a user

module _ {roles users : List Name} (named : Named roles) (listed : Named users) {user : ℕ} (here : user < length users) (before after : State) (at : length before ≡ user)
    (p : Person) (inside : Inside (length roles) p.roles) where
  -- the user holds some roles
  abbrev holding : RoleSet → Said
  holding held = parts roles users (before ++ (with_roles p held ∷ after)) [] [] []

  -- a role more
  granted_more : (held : RoleSet) (role : ℕ) → granted (before ++ (with_roles p held ∷ after)) user role ≡ before ++ (with_roles p (with_of held role) ∷ after)
  unfolding granted person with_role
  granted_more held role =
      ap (λ (q : Person). set (before ++ (with_roles p held ∷ after)) user (with_role q role)) (get_or_at before (with_roles p held) after nobody user at)
      ∙ set_at before (with_roles p held) after (with_roles p (with_of held role)) user at

  -- the roles held so far
  held_now : (held : RoleSet) → (person (before ++ (with_roles p held ∷ after)) user).roles ≡ held
  unfolding person
  held_now held = ap (λ (q : Person). q.roles) (get_or_at before (with_roles p held) after nobody user at)

  -- from a role on
  user_through : (role : ℕ) (names : List Name) (upto : RoleSet) → role + length names ≡ length roles → Upto role p.roles upto
      → Through roles users has_kind (holding upto) (held_from user role p.roles names) (holding p.roles)
  unfolding held_from added noted kind_of
  user_through role [] upto last u =
      subst (λ (held : RoleSet). Through roles users has_kind (holding upto) [] (holding held)) (upto_all (subst (λ (n : ℕ). Inside n p.roles) (sym last ∙ omega arith) inside) u) through_none
  user_through role (name ∷ names) upto last u = go (has_role p.roles role) refl (λ held. user_through (suc role) names held (omega (arith, last)))
    where
      go : (b : Bool) → has_role p.roles role ≡ b
          → ((held : RoleSet) → Upto (suc role) p.roles held → Through roles users has_kind (holding held) (held_from user (suc role) p.roles names) (holding p.roles))
          → Through roles users has_kind (holding upto) (cond b (Entry.Has user role ∷ held_from user (suc role) p.roles names) (held_from user (suc role) p.roles names)) (holding p.roles)
      go true found later =
          through_join
          (through_one (omega arith)
          (λ from ready. has_taken (at_stage from (holding upto)) named listed ready here (omega (arith, last)) (ap (λ (held : RoleSet). has_role held role) (held_now upto) ∙ absent_test (λ old. absurd (omega (arith, u.low old)))))
          (λ from i. at_stage has_kind (parts roles users (granted_more upto role i) [] [] [])))
          (later (with_of upto role) (upto_with (record { found = found }) u))
      go false found later = later upto (upto_skip (λ own. false≢true (sym found ∙ own.found)) u)

-- ---- the lines of all users

module _ {s : Said} (sound : Sound s) where
  -- has lines lead from holdings to holdings
  abbrev Grants : State → List Entry → State → Type 0
  Grants σ entries τ = Through s.roles s.users has_kind (parts s.roles s.users σ [] [] []) entries (parts s.roles s.users τ [] [] [])

  -- after the first users
  abbrev reached : ℕ → State
  reached count = take count s.holdings ++ drop count (map without s.holdings)

  module _ (count : ℕ) (here : count < length s.users) where
    there : count < length s.holdings
    there = omega (arith, sound.people, here)

    -- the next user has no roles yet, and then those held
    next_bare : reached count ≡ take count s.holdings ++ (without (person s.holdings count) ∷ drop (suc count) (map without s.holdings))
    unfolding person
    next_bare =
        ap (λ (l : State). take count s.holdings ++ l)
        (drop-cons (map without s.holdings) count (without nobody) (omega (arith, length-map s.holdings without, there))
        ∙ ap (λ (q : Person). q ∷ drop (suc count) (map without s.holdings)) (get_or-map without s.holdings count nobody))

    next_held : take count s.holdings ++ (person s.holdings count ∷ drop (suc count) (map without s.holdings)) ≡ reached (suc count)
    unfolding person
    next_held =
        sym (append_snoc (take count s.holdings) (get_or s.holdings count nobody) (drop (suc count) (map without s.holdings)))
        ∙ ap (λ (l : State). l ++ drop (suc count) (map without s.holdings)) (sym (take-suc s.holdings count nobody there))

    holder_inside : Inside (length s.roles) (person s.holdings count).roles
    unfolding person
    holder_inside = (sound.holdings (person s.holdings count) (at_listed (stands_at nobody s.holdings count there))).held

    next_user : Grants (reached count) (element s Block.Has count) (reached (suc count))
    unfolding element
    next_user =
        subst (λ (σ : State). Grants σ (element s Block.Has count) (reached (suc count))) (sym next_bare)
        (subst (λ (σ : State). Grants (take count s.holdings ++ (without (person s.holdings count) ∷ drop (suc count) (map without s.holdings))) (element s Block.Has count) σ) next_held
        (user_through sound.roles.named sound.users.named here (take count s.holdings) (drop (suc count) (map without s.holdings)) (length-take-le count s.holdings (omega (arith, there)))
        (person s.holdings count) holder_inside 0 s.roles empty_set (omega arith) upto_none))

  has_first : (count : ℕ) → count ≤ length s.users
      → Grants (map without s.holdings) (first_of s Block.Has count) (reached count)
  unfolding first_of
  has_first zero fits = through_none
  has_first (suc count) fits = through_join (has_first count (omega arith)) (next_user count fits)

  -- The block of has lines: from no roles to all that are held.
  pub has_block : Grants (map without s.holdings) (block_of s Block.Has) s.holdings
  unfolding block_of block_size
  has_block =
      subst (λ (σ : State). Grants (map without s.holdings) (first_of s Block.Has (length s.users)) σ) all
      (has_first (length s.users) (omega arith))
    where
      all : reached (length s.users) ≡ s.holdings
      all =
          ap₂ (λ (l k : State). l ++ k) (take_all (length s.users) s.holdings (omega (arith, sound.people))) (drop_of_length-le (map without s.holdings) {i = length s.users} (omega (arith, length-map s.holdings without, sound.people)))
          ∙ append-nil s.holdings
