-- A set field read name by name: the roles so far tell a repeat among declared names.
use Rattle.std.specs.Prelude.{ℕ, ◌≤◌, ◌<◌, Bool, true, false, ◌&&◌, ◌||◌, ◌⊎◌, Ok, Err, ◌≡◌, refl, eqb, length, take, drop}
use Rattle.std.proofs.Math.Bool.{cond, not, and-eq-true_iff, and-false, or-false}
use Rattle.std.proofs.lemmas.Bool.{false≢true}
use Rattle.std.proofs.Common.{inl, inr, true≢false, ◌∙◌, subst, eq-eqb, ne_eqb, ltb-true, arith}
use mathlib.Core.List.{List, [], ◌∷◌, ◌++◌, append_assoc}
use Rattle.std.proofs.Math.Path.{sym, ap, ap₂}
use Rattle.roles.specs.declared.RoleSet.{RoleSet}
use Rattle.roles.specs.Sets.{has_role, empty_set, with_of}
use Rattle.roles.specs.MemberLaws.{has_empty, has_with}
use Rattle.tables.specs.declared.Name.{Name}
use Rattle.text.specs.Forms.{bytes, every, is_name, is_set, names_of}
use Rattle.text.specs.FormLaws.{every_more}
use Rattle.tables.specs.NameLaws.{packed_one_to_one, place_one_to_one}
use Rattle.text.specs.Pieces.{split, same_bytes, among, repeated, Sought}
use Rattle.text.specs.PieceLaws.{same_equal, equal_same, sought_start}
use Rattle.text.specs.Repeats.{still_single, now_repeated, repeated_start}
use Rattle.walking.specs.declared.Fault.{Fault}
use Rattle.fields.specs.Fields.{placed, is_declared, all_declared, roles_from, roles_of, field_read, are_set, name_read, set_fault, set_read}
use Rattle.fields.specs.FieldLaws.{name_faulty}

-- ---- a name stands twice exactly where its role is in the set already

-- two declared names stand at one place exactly where they are the same
same_place : (names : List Name) (p q : List ℕ) → is_name p ≡ true → is_name q ≡ true → is_declared names p ≡ true → eqb (placed names q) (placed names p) ≡ same_bytes p q
unfolding placed is_declared
same_place names p q hp hq known = go (same_bytes p q) refl
  where
    go : (b : Bool) → same_bytes p q ≡ b → eqb (placed names q) (placed names p) ≡ same_bytes p q
    go true e = eq-eqb _ _ (ap (placed names) (sym (same_equal p q e))) ∙ sym e
    go false e =
        ne_eqb _ _ (λ same. false≢true (sym e ∙ subst (λ (x : List ℕ). same_bytes p x ≡ true) (packed_one_to_one p q hp hq (place_one_to_one names _ _ (sym same) (ltb-true _ _ known))) (equal_same p)))
        ∙ sym e

-- a declared name's role is among those of declared names exactly where the name is among them
role_among : (names : List Name) → length names ≤ 128 → (p : List ℕ) → is_name p ≡ true → is_declared names p ≡ true → (roles : RoleSet) (done : List (List ℕ)) → every is_name done ≡ true
    → every (is_declared names) done ≡ true → has_role (roles_from names roles done) (placed names p) ≡ (has_role roles (placed names p) || among p done)
unfolding roles_from among every is_declared
role_among names few p form known roles [] forms knowns = sym (or-false (has_role roles (placed names p)))
role_among names few p form known roles (q ∷ done) forms knowns =
    let form-q = (and-eq-true_iff (is_name q) (every is_name done)).0 forms in
    let known-q = (and-eq-true_iff (is_declared names q) (every (is_declared names) done)).0 knowns in
    role_among names few p form known (with_of roles (placed names q)) done form-q.1 known-q.1
    ∙ ap (λ (b : Bool). b || among p done) (has_with roles (placed names q) (placed names p) (place_below names few q known-q.0) ∙ ap (λ (b : Bool). has_role roles (placed names p) || b) (same_place names p q form form-q.0 known))
    ∙ group (has_role roles (placed names p)) (same_bytes p q) (among p done)
  where
    group : (a b c : Bool) → ((a || b) || c) ≡ (a || (b || c))
    group true b c = refl
    group false b c = refl

    place_below : (ns : List Name) → length ns ≤ 128 → (x : List ℕ) → is_declared ns x ≡ true → placed ns x < 128
    place_below ns h x k = omega (arith, ltb-true (placed ns x) (length ns) k)

-- ---- names before a name, and a name more

roles_more : (names : List Name) (roles : RoleSet) (done more : List (List ℕ)) → roles_from names roles (done ++ more) ≡ roles_from names (roles_from names roles done) more
unfolding roles_from
roles_more names roles [] more = refl
roles_more names roles (q ∷ done) more = roles_more names (with_of roles (placed names q)) done more

-- a test of pieces whose first fails, and whose first holds
pub first_fails : (test : List ℕ → Bool) {pieces rest : List (List ℕ)} {p : List ℕ} → pieces ≡ p ∷ rest → test p ≡ false → every test pieces ≡ false
unfolding every
first_fails test {pieces} {rest} {p} cut bad = ap (every test) cut ∙ ap (λ (b : Bool). b && every test rest) bad

pub first_holds : (test : List ℕ → Bool) {pieces rest : List (List ℕ)} {p : List ℕ} → pieces ≡ p ∷ rest → test p ≡ true → every test pieces ≡ every test rest
unfolding every
first_holds test {pieces} {rest} {p} cut good = ap (every test) cut ∙ ap (λ (b : Bool). b && every test rest) good

-- ---- the walk

-- Up to a place, all names of a set field are well formed, declared and different, and their roles are the set.
pub record Walked (names : List Name) (field : List ℕ) (at : ℕ) (roles : RoleSet) : Type 0 where
  pub done : List (List ℕ)
  pub pieces : split 44 field ≡ done ++ split 44 (drop at field)
  pub formed : every is_name done ≡ true
  pub known : every (is_declared names) done ≡ true
  pub single : repeated done ≡ false
  pub are : roles ≡ roles_from names empty_set done

pub walked_start : (names : List Name) (field : List ℕ) → Walked names field 0 empty_set
unfolding every repeated roles_from
walked_start names field = record { done = []; pieces = refl; formed = refl; known = refl; single = refl; are = refl }

-- ---- what the walk finds

module _ (names : List Name) (field : List ℕ) (plain : same_bytes field (bytes "-") ≡ false) where
  pub plain_names : names_of field ≡ split 44 field
  unfolding names_of
  plain_names = rw plain

  pub set_malformed : is_set field ≡ false → Err Fault.Malformed ≡ set_read names field
  unfolding set_read field_read
  set_malformed bad = rw bad

  pub set_undeclared : all_declared names field ≡ false → Err (set_fault field Fault.Undeclared) ≡ set_read names field
  unfolding set_read field_read set_fault
  set_undeclared bad = go (is_set field) (all_declared names field) bad
    where
      go : (f d : Bool) → d ≡ false → Err (cond f Fault.Undeclared Fault.Malformed) ≡ field_read f d (roles_of names field)
      go true true e = absurd (true≢false e)
      go true false e = refl
      go false d e = refl

  set_good : (roles : RoleSet) → is_set field ≡ true → all_declared names field ≡ true → roles ≡ roles_of names field → Ok roles ≡ set_read names field
  unfolding set_read field_read
  set_good roles formed known are = rw (formed, known) (ap Ok are)

  module _ (few : length names ≤ 128) {at : ℕ} {roles : RoleSet} (walked : Walked names field at roles) (p : List ℕ) (rest : List (List ℕ)) (cut : split 44 (drop at field) ≡ p ∷ rest) where
    all_names : names_of field ≡ walked.done ++ (p ∷ rest)
    all_names = plain_names ∙ walked.pieces ∙ ap (λ (ps : List (List ℕ)). walked.done ++ ps) cut

    malformed : is_name p ≡ false → is_set field ≡ false
    unfolding is_set every
    malformed bad =
        ap (λ (b : Bool). b && not (repeated (names_of field)))
        (ap (every is_name) all_names ∙ every_more is_name walked.done (p ∷ rest) ∙ ap (λ (b : Bool). every is_name walked.done && (b && every is_name rest)) bad ∙ and-false (every is_name walked.done))

    pub walk_undeclared : is_declared names p ≡ false → Err (set_fault field Fault.Undeclared) ≡ set_read names field
    unfolding all_declared every
    walk_undeclared bad =
        set_undeclared (ap (every (is_declared names)) all_names ∙ every_more (is_declared names) walked.done (p ∷ rest)
        ∙ ap (λ (b : Bool). every (is_declared names) walked.done && (b && every (is_declared names) rest)) bad ∙ and-false (every (is_declared names) walked.done))

    -- a name with a fault
    pub walk_faulty : {fault : Fault} → Err fault ≡ name_read names p → Err (set_fault field fault) ≡ set_read names field
    unfolding set_fault
    walk_faulty {fault} is = go (name_faulty names p is)
      where
        go : (is_name p ≡ false) ⊎ ((fault ≡ Fault.Undeclared) × (is_declared names p ≡ false)) → Err (set_fault field fault) ≡ set_read names field
        go (inl form) = rw (malformed form) (set_malformed (malformed form))
        go (inr (same, unknown)) = rw same (walk_undeclared unknown)

    module _ (form : is_name p ≡ true) (known : is_declared names p ≡ true) where
      stands : has_role roles (placed names p) ≡ among p walked.done
      stands =
          ap (λ (r : RoleSet). has_role r (placed names p)) walked.are ∙ role_among names few p form known empty_set walked.done walked.formed walked.known
          ∙ ap (λ (b : Bool). b || among p walked.done) (has_empty (placed names p))

      pub walk_repeated : has_role roles (placed names p) ≡ true → Err Fault.Malformed ≡ set_read names field
      unfolding is_set
      walk_repeated old =
          set_malformed (ap (λ (b : Bool). every is_name (names_of field) && not b) (ap repeated all_names ∙ now_repeated walked.done p rest (sym stands ∙ old)) ∙ and-false (every is_name (names_of field)))

      module _ (new : has_role roles (placed names p) ≡ false) where
        formed_more : every is_name (walked.done ++ (p ∷ [])) ≡ true
        unfolding every
        formed_more = every_more is_name walked.done (p ∷ []) ∙ ap₂ (λ (a b : Bool). a && (b && true)) walked.formed form

        known_more : every (is_declared names) (walked.done ++ (p ∷ [])) ≡ true
        unfolding every
        known_more = every_more (is_declared names) walked.done (p ∷ []) ∙ ap₂ (λ (a b : Bool). a && (b && true)) walked.known known

        single_more : repeated (walked.done ++ (p ∷ [])) ≡ false
        single_more = still_single walked.done p walked.single (sym stands ∙ new)

        are_more : with_of roles (placed names p) ≡ roles_from names empty_set (walked.done ++ (p ∷ []))
        unfolding roles_from
        are_more = ap (λ (r : RoleSet). with_of r (placed names p)) walked.are ∙ sym (roles_more names empty_set walked.done (p ∷ []))

        pub walk_next : (next : ℕ) → rest ≡ split 44 (drop next field) → Walked names field next (with_of roles (placed names p))
        walk_next next more = record {
          done = walked.done ++ (p ∷ []);
          pieces = walked.pieces ∙ ap (λ (ps : List (List ℕ)). walked.done ++ ps) (cut ∙ ap (λ (r : List (List ℕ)). p ∷ r) more) ∙ sym (append_assoc walked.done (p ∷ []) (split 44 (drop next field)));
          formed = formed_more;
          known = known_more;
          single = single_more;
          are = are_more;
        }

        pub walk_last : rest ≡ [] → Ok (with_of roles (placed names p)) ≡ set_read names field
        unfolding is_set all_declared roles_of
        walk_last none =
            let all = all_names ∙ ap (λ (r : List (List ℕ)). walked.done ++ (p ∷ r)) none in
            set_good (with_of roles (placed names p)) (ap₂ (λ (a b : Bool). a && not b) (ap (every is_name) all ∙ formed_more) (ap repeated all ∙ single_more))
            (ap (every (is_declared names)) all ∙ known_more) (are_more ∙ sym (ap (roles_from names empty_set) all))

-- a field of names is a set where they make one
pub set_form : (field : List ℕ) → same_bytes field (bytes "-") ≡ false → is_set field ≡ are_set (split 44 field)
unfolding is_set are_set
set_form field plain = rw (plain_names [] field plain)

-- names that make no set make none with more names after them
start_malformed : (some more : List (List ℕ)) → are_set some ≡ false → are_set (some ++ more) ≡ false
unfolding are_set
start_malformed some more bad = rw (every_more is_name some more) (go (every is_name some) (repeated some) refl refl bad)
  where
    go : (e r : Bool) → every is_name some ≡ e → repeated some ≡ r → (e && not r) ≡ false → ((every is_name some && every is_name more) && not (repeated (some ++ more))) ≡ false
    go false r p q h = rw p
    go true true p q h = rw (repeated_start some more q) (and-false (every is_name some && every is_name more))
    go true false p q h = absurd (true≢false h)

pub start_fails : (field : List ℕ) (from cut : ℕ) → Sought field from 44 cut → are_set (split 44 (take cut field)) ≡ false → are_set (split 44 field) ≡ false
start_fails field from cut sought bad =
    let start = sought_start field from 44 cut sought in
    ap are_set start.1 ∙ start_malformed (split 44 (take cut field)) start.0 bad

-- `-` is the empty set
pub empty_set_lem : (names : List Name) (field : List ℕ) → same_bytes field (bytes "-") ≡ true → Ok empty_set ≡ set_read names field
unfolding set_read field_read is_set all_declared roles_of names_of every repeated roles_from
empty_set_lem names field dash = rw dash
