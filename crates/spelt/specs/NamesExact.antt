-- Name fields and set fields by their bytes: packing loses nothing.
use Rattle.std.specs.Prelude.{ℕ, suc, ◌≤◌, ◌<◌, Bool, cond, ◌&&◌, ◌||◌, ◌↔◌, ◌⊎◌, ◌≡◌, length}
use Rattle.std.proofs.Math.Bool.{true, false, and-eq-true_iff}
use Rattle.std.proofs.lemmas.Bool.{false≢true}
use mathlib.Core.List.Memᴰ.{head as first}
use mathlib.Core.List.Memᴰ.{tail as next}
use mathlib.Core.List.{List, [], ◌∷◌, ◌++◌, map, Memᴰ as Listed}
use Rattle.std.proofs.Common.{inl, inr, sym, ap, ap₂, ◌∙◌, arith}
use Rattle.std.proofs.Math.Path.{refl, subst, subst⁻¹}
use borrow.Author.Tests.{eq-eqb, ltb-true, ltb-false, lt-ltb}
use Rattle.std.proofs.Math.ListN.{length-map}
use Rattle.roles.specs.declared.RoleSet.{RoleSet}
use Rattle.roles.specs.Sets.{empty_set, with_of}
use Rattle.roles.specs.Members.{◌∈◌}
use Rattle.roles.specs.MemberLaws.{with_cases, with_new_lem, empty_none}
use Rattle.tables.specs.declared.Name.{Name}
use Rattle.tables.specs.Names.{packed, same_name, place_of}
use Rattle.tables.specs.NameLaws.{packed_one_to_one, place_one_to_one, place_most}
use Rattle.text.specs.Forms.{every, is_name, names_of}
use Rattle.text.specs.Pieces.{same_bytes, among, repeated}
use Rattle.text.specs.FormLaws.{every_more}
use Rattle.text.specs.PieceLaws.{same_equal, equal_same, neither}
use Rattle.text.specs.Repeats.{still_single}
use Rattle.fields.specs.Fields.{placed, is_declared, all_declared, roles_from, roles_of}
use Rattle.steps.specs.Places.{At, here, there}
use Rattle.steps.proofs.PlaceLaws.{at_inside, at_listed, listed_at}
use Rattle.fields.specs.Roles.{role_kept}
use Rattle.spelt.specs.Names.{Names, RoleOf}

-- ---- the words of names tell their bytes

same_self : (m : Name) → same_name m m ≡ true
unfolding same_name
same_self m = rw (eq-eqb m.first m.first refl, eq-eqb m.second m.second refl, eq-eqb m.third m.third refl, eq-eqb m.fourth m.fourth refl)

same_words : (m n : Name) → same_name m n ≡ true → m ≡ n
unfolding place_of
same_words m n same = place_one_to_one (m ∷ []) m n (rw (same_self m, same)) (rw (same_self m) (omega arith))

-- names have the same words exactly where they have the same bytes
same_packed : (s t : List ℕ) → is_name s ≡ true → is_name t ≡ true → same_name (packed s) (packed t) ≡ same_bytes s t
same_packed s t form form' = go (same_bytes s t) (same_name (packed s) (packed t)) refl refl
  where
    go : (b c : Bool) → same_bytes s t ≡ b → same_name (packed s) (packed t) ≡ c → c ≡ b
    go true true e f = refl
    go false false e f = refl
    go true false e f = sym f ∙ ap (λ (x : List ℕ). same_name (packed s) (packed x)) (sym (same_equal s t e)) ∙ same_self (packed s)
    go false true e f = sym (equal_same s) ∙ ap (same_bytes s) (packed_one_to_one s t form form' (same_words (packed s) (packed t) f)) ∙ e

-- ---- where a name stands

-- a byte string that is listed passes every test that all pass, and is found among them
pub listed_passes : (test : List ℕ → Bool) {s : List ℕ} {names : List (List ℕ)} → every test names ≡ true → Listed s names → test s ≡ true
unfolding every
listed_passes test all (first {x} {xs} e) = ap test e ∙ ((and-eq-true_iff (test x) (every test xs)).0 all).0
listed_passes test all (next {x} {xs} m) = listed_passes test ((and-eq-true_iff (test x) (every test xs)).0 all).1 m

pub listed-among : {s : List ℕ} {names : List (List ℕ)} → Listed s names → among s names ≡ true
unfolding among
listed-among {s} (first {x} {xs} e) = ap (λ (b : Bool). b || among s xs) (ap (same_bytes s) (sym e) ∙ equal_same s)
listed-among {s} (next {x} {xs} m) = go (same_bytes s x) (listed-among m)
  where
    go : (b : Bool) → among s xs ≡ true → (b || among s xs) ≡ true
    go true below = refl
    go false below = below

-- what is found among them is listed
among-listed : {s : List ℕ} (names : List (List ℕ)) → among s names ≡ true → Listed s names
unfolding among
among-listed [] found = absurd (false≢true found)
among-listed {s} (t ∷ rest) found = go (same_bytes s t) refl found (among-listed rest)
  where
    go : (b : Bool) → same_bytes s t ≡ b → (b || among s rest) ≡ true → (among s rest ≡ true → Listed s rest) → Listed s (t ∷ rest)
    go true same e below = first (same_equal s t same)
    go false same e below = next (below e)

-- the place that is found, where no name stands twice
place_found : {s : List ℕ} {names : List (List ℕ)} {place : ℕ} → every is_name names ≡ true → repeated names ≡ false → At s names place → place_of (map packed names) (packed s) ≡ place
unfolding place_of every repeated
place_found {s} forms single here = rw (same_self (packed s))
place_found {s} forms single (there {b = t} {l = rest} {place = place} at) =
    let form = (and-eq-true_iff (is_name t) (every is_name rest)).0 forms in
    let alone = neither (among t rest) (repeated rest) single in
    ap (λ (b : Bool). cond b 0 (suc (place_of (map packed rest) (packed s)))) (same_packed t s form.0 (listed_passes is_name form.1 (at_listed at)) ∙ other (same_bytes t s) refl alone.0)
    ∙ ap suc (place_found form.1 alone.1 at)
  where
    other : (b : Bool) → same_bytes t s ≡ b → among t rest ≡ false → b ≡ false
    other true same new = absurd (false≢true (sym new ∙ subst⁻¹ (λ (x : List ℕ). among x rest ≡ true) (same_equal t s same) (listed-among (at_listed at))))
    other false same new = refl

-- a name that is found stands there
found_at : {s : List ℕ} (names : List (List ℕ)) → every is_name names ≡ true → is_name s ≡ true → place_of (map packed names) (packed s) < length names → At s names (place_of (map packed names) (packed s))
unfolding place_of every
found_at [] forms form inside = absurd (omega arith)
found_at {s} (t ∷ rest) forms form inside =
    let each = (and-eq-true_iff (is_name t) (every is_name rest)).0 forms in
    go (same_name (packed t) (packed s)) (same_packed t s each.0 form) inside (found_at rest each.1 form)
  where
    go : (b : Bool) → b ≡ same_bytes t s → cond b 0 (suc (place_of (map packed rest) (packed s))) < suc (length rest)
        → (place_of (map packed rest) (packed s) < length rest → At s rest (place_of (map packed rest) (packed s)))
        → At s (t ∷ rest) (cond b 0 (suc (place_of (map packed rest) (packed s))))
    go true same less below = subst (λ (x : List ℕ). At s (x ∷ rest) 0) (sym (same_equal t s (sym same))) here
    go false same less below = there (below (omega arith))

-- ---- a name field

module _ {names : List (List ℕ)} (all : Names names) where
  -- A name is found at a place exactly when its bytes stand there.
  pub placed_exact : {field : List ℕ} → is_name field ≡ true → (place : ℕ) → ((placed (map packed names) field ≡ place) × (place < length names)) ↔ At field names place
  unfolding placed
  placed_exact {field} form place = (
    λ found. subst (At field names) found.0 (found_at names all.forms form (omega (arith, found.0, found.1))),
    λ at. (place_found all.forms all.single at, at_inside at),
  )

  -- A name that is declared stands where it is found.
  pub declared_at : {field : List ℕ} → is_name field ≡ true → is_declared (map packed names) field ≡ true → At field names (placed (map packed names) field)
  unfolding is_declared
  declared_at {field} form known =
      (placed_exact form (placed (map packed names) field)).0 (refl, rw length-map at (ltb-true (placed (map packed names) field) (length (map packed names)) known))

  -- It is declared exactly when its bytes are those of a name.
  pub declared_exact : {field : List ℕ} → is_name field ≡ true → is_declared (map packed names) field ≡ true ↔ Listed field names
  unfolding is_declared
  declared_exact {field} form = (
    λ known. at_listed (declared_at form known),
    λ listed. let at = (placed_exact form (listed_at listed).0).1 (listed_at listed).1 in rw length-map (lt-ltb (placed (map packed names) field) (length names) (omega (arith, at.0, at.1))),
  )

  -- A name that is not declared is found past all others.
  pub unknown_last : (field : List ℕ) → is_declared (map packed names) field ≡ false → placed (map packed names) field ≡ length names
  unfolding is_declared placed
  unknown_last field new =
      omega (arith, place_most (map packed names) (packed field), ltb-false (placed (map packed names) field) (length (map packed names)) new, length-map names packed)

  -- It is not declared exactly when its bytes are those of no name,
  pub unknown_exact : {field : List ℕ} → is_name field ≡ true → is_declared (map packed names) field ≡ false ↔ (Listed field names → ⊥)
  unknown_exact {field} form = (
    λ new listed. false≢true (sym new ∙ (declared_exact form).1 listed),
    λ none. go (is_declared (map packed names) field) refl none,
  )
    where
      go : (b : Bool) → is_declared (map packed names) field ≡ b → (Listed field names → ⊥) → b ≡ false
      go true known none = absurd (none ((declared_exact form).0 known))
      go false known none = refl

  -- and names with it are names, none of them twice.
  pub names_more : {field : List ℕ} → is_name field ≡ true → (Listed field names → ⊥) → Names (names ++ (field ∷ []))
  unfolding every
  names_more {field} form none = record {
    forms = every_more is_name names (field ∷ []) ∙ rw (all.forms, form);
    single = still_single names field all.single (go (among field names) refl);
  }
    where
      go : (b : Bool) → among field names ≡ b → b ≡ false
      go true found = absurd (none (among-listed names found))
      go false found = refl

-- ---- a set field

-- a test of all byte strings holds exactly when it holds of each
pub every_exact : (test : List ℕ → Bool) (fields : List (List ℕ)) → every test fields ≡ true ↔ ((s : List ℕ) → Listed s fields → test s ≡ true)
unfolding every
every_exact test fields = (λ all s m. listed_passes test all m, back fields)
  where
    back : (l : List (List ℕ)) → ((s : List ℕ) → Listed s l → test s ≡ true) → every test l ≡ true
    back [] each = refl
    back (t ∷ rest) each = ap₂ ◌&&◌ (each t (first refl)) (back rest (λ s m. each s (next m)))

-- byte strings that each stand where they are found
Standing : (names fields : List (List ℕ)) → Type 0
Standing names fields = (name : List ℕ) → Listed name fields → At name names (placed (map packed names) name)

-- a role that is added is that of one of them,
from_named : (names : List (List ℕ)) (s : RoleSet) (fields : List (List ℕ)) → Standing names fields → {role : ℕ} → role ∈ roles_from (map packed names) s fields → (role ∈ s) ⊎ RoleOf names fields role
unfolding roles_from Standing
from_named names s [] standing found = inl found
from_named names s (field ∷ rest) standing {role} found = go (from_named names (with_of s (placed (map packed names) field)) rest (λ name m. standing name (next m)) found)
  where
    new : (role ∈ s) ⊎ (role ≡ placed (map packed names) field) → (role ∈ s) ⊎ RoleOf names (field ∷ rest) role
    new (inl old) = inl old
    new (inr is) = inr (record { name = field; stands = subst⁻¹ (At field names) is (standing field (first refl)); is_written_lem = first refl })

    go : (role ∈ with_of s (placed (map packed names) field)) ⊎ RoleOf names rest role → (role ∈ s) ⊎ RoleOf names (field ∷ rest) role
    go (inl more) = new (with_cases s (placed (map packed names) field) more)
    go (inr below) = inr (record { name = below.name; stands = below.stands; is_written_lem = next below.is_written_lem })

-- and the role of each of them is added
named-from : (names : List (List ℕ)) (s : RoleSet) (fields : List (List ℕ)) {name : List ℕ} → placed (map packed names) name < 128 → Listed name fields → placed (map packed names) name ∈ roles_from (map packed names) s fields
unfolding roles_from
named-from names s [] {name = name} low m = elim m [ ]
named-from names s (field ∷ rest) {name} low (first e) =
    role_kept (map packed names) rest (subst⁻¹ (λ (x : List ℕ). placed (map packed names) name ∈ with_of s (placed (map packed names) x)) (sym e) (with_new_lem s low))
named-from names s (field ∷ rest) low (next m) = named-from names (with_of s (placed (map packed names) field)) rest low m

module _ {names : List (List ℕ)} (all : Names names) (field : List ℕ) (forms : every is_name (names_of field) ≡ true) where
  -- All names of a set field are declared exactly when the bytes of each are those of a name.
  pub all_declared_exact : all_declared (map packed names) field ≡ true ↔ ((name : List ℕ) → Listed name (names_of field) → Listed name names)
  unfolding all_declared
  all_declared_exact =
      let each = every_exact (is_declared (map packed names)) (names_of field) in (
        λ known name m. (declared_exact all (listed_passes is_name forms m)).0 (each.0 known name m),
        λ listed. each.1 (λ name m. (declared_exact all (listed_passes is_name forms m)).1 (listed name m)),
      )

  -- Then its roles are those at the places of its names.
  pub roles_exact : length names ≤ 128 → all_declared (map packed names) field ≡ true → (role : ℕ) → role ∈ roles_of (map packed names) field ↔ RoleOf names (names_of field) role
  unfolding roles_of Standing all_declared
  roles_exact few known role = (λ found. only (from_named names empty_set (names_of field) standing found), back)
    where
      standing : Standing names (names_of field)
      standing name m = declared_at all (listed_passes is_name forms m) (listed_passes (is_declared (map packed names)) known m)

      only : (role ∈ empty_set) ⊎ RoleOf names (names_of field) role → RoleOf names (names_of field) role
      only (inl none) = absurd (empty_none none)
      only (inr named) = named

      back : RoleOf names (names_of field) role → role ∈ roles_from (map packed names) empty_set (names_of field)
      back named =
          let at = (placed_exact all (listed_passes is_name forms named.is_written_lem) role).1 named.stands in
          subst (λ (k : ℕ). k ∈ roles_from (map packed names) empty_set (names_of field)) at.0 (named-from names empty_set (names_of field) (omega (arith, at.0, at.1)) named.is_written_lem)
