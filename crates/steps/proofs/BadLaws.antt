-- The test for a bad state finds a user exactly when the state is bad, and then the first user and that user's lowest goal.
use Prim.Native.Nat.{ℕ, suc, ◌<◌}
use Rattle.std.proofs.Common.{inl, inr, ap, ◌∙◌, arith}
use Rattle.std.proofs.lemmas.Option.{none-some, same_Some}
use Rattle.std.specs.Prelude.{Bool, ◌↔◌, ◌⊎◌, ◌≡◌, Option, Some, None, option_map, option_and_then, length}
use Rattle.std.proofs.Math.Bool.{true, false, cond, not, ◌&&◌}
use Rattle.std.specs.Option.{is_some}
use Rattle.std.proofs.lemmas.Bool.{false≢true}
use mathlib.Core.List.{List, Memᴰ as Listed}
use Rattle.std.proofs.Math.Path.{refl, sym, subst}
use Rattle.roles.specs.declared.RoleSet.{RoleSet}
use Rattle.roles.specs.Sets.{empty_set, includes}
use Rattle.roles.specs.Members.{Within, Sized}
use Rattle.roles.specs.MemberLaws.{includes_within}
use Rattle.roles.specs.Joined.{within_exact}
use Rattle.model.specs.declared.Person.{Person}
use Rattle.model.specs.Policy.{L, State, nobody, person, Bad}
use Rattle.steps.specs.declared.Found.{Found}
use Rattle.steps.specs.First.{Earliest, Nowhere, look, place_some, place_none}
use Rattle.steps.proofs.PlaceLaws.{at_inside, at_stands, stands_at, at_listed, listed_at}
use Rattle.steps.specs.Tests.{lowest_goal, own_goal, bad_person, found_at, first_bad}
use Rattle.steps.specs.Bad.{FirstBad, HoldsGoal, Lowest, goal_at}

-- a goal at a place below the length is listed
goal-listed : (goals : List RoleSet) (goal : ℕ) → goal < length goals → Listed (goal_at goals goal) goals
unfolding goal_at
goal-listed goals goal inside = at_listed (stands_at empty_set goals goal inside)

-- a test is false exactly when it is not true
refuted : (a : Bool) → a ≡ false ↔ (a ≡ true → ⊥)
refuted true = (λ e h. false≢true (sym e), λ none. absurd (none refl))
refuted false = (λ e h. false≢true h, λ none. refl)

-- a number from 1 is that of a place
number_place : (o : Option ℕ) {place : ℕ} → option_map suc o ≡ Some (suc place) → o ≡ Some place
number_place None e = absurd (none-some _ e)
number_place (Some other) e = let same = same_Some _ _ e in ap Some (omega arith)

number_none : (o : Option ℕ) → option_map suc o ≡ None → o ≡ None
number_none None e = refl
number_none (Some other) e = absurd (none-some _ (sym e))

number_at : (o : Option ℕ) {number : ℕ} → option_map suc o ≡ Some number → (place : ℕ) × (number ≡ suc place)
number_at None e = absurd (none-some _ e)
number_at (Some place) e = (place, sym (same_Some _ _ e))

module _ {goals : List RoleSet} (sized : (goal : RoleSet) → Listed goal goals → Sized goal) where
  -- ---- a person

  -- the goal at a place lies within the roles exactly when the test says so
  whole_exact : (roles : RoleSet) (goal : ℕ) → goal < length goals → includes roles (goal_at goals goal) ≡ true ↔ Within (goal_at goals goal) roles
  whole_exact roles goal inside = within_exact roles (sized _ (goal-listed goals goal inside))

  -- The lowest goal's number is that of a place exactly when the goal there is the lowest.
  pub lowest_exact : (roles : RoleSet) (goal : ℕ) → lowest_goal goals roles ≡ Some (suc goal) ↔ Lowest goals roles goal
  unfolding lowest_goal goal_at
  lowest_exact roles goal = (
    λ e.
        let found = (place_some (includes roles) empty_set goals goal).0 (number_place _ e) in
        record {
          inside = found.inside;
          whole = includes_within _ roles found.passes;
          lower = λ other lt within. (refuted _).0 (found.earlier other lt) ((whole_exact roles other (omega (arith, found.inside))).1 within);
        },
    λ lowest. ap (option_map suc) ((place_some (includes roles) empty_set goals goal).1 (record {
      inside = lowest.inside;
      passes = (whole_exact roles goal lowest.inside).1 lowest.whole;
      earlier = λ other lt. (refuted _).1 (λ e. lowest.lower other lt (includes_within _ roles e));
    })),
  )

  -- There is none exactly when no goal is held whole.
  pub lowest_none : (roles : RoleSet) → lowest_goal goals roles ≡ None ↔ ((goal : RoleSet) → Listed goal goals → Within goal roles → ⊥)
  unfolding lowest_goal
  lowest_none roles = (
    λ e goal listed within.
        let (place, at) = listed_at listed in
        (refuted _).0 (((place_none (includes roles) empty_set goals).0 (number_none _ e)).fails place (at_inside at)) (rw (at_stands empty_set at) ((within_exact roles (sized goal listed)).1 within)),
    λ none. ap (option_map suc) ((place_none (includes roles) empty_set goals).1 (record { fails = λ place lt. (refuted _).1 (λ e. none _ (at_listed (stands_at empty_set goals place lt)) (includes_within _ roles e)) })),
  )

  -- the lowest goal, where there is one, is at a place
  lowest_at : (roles : RoleSet) (number : ℕ) → lowest_goal goals roles ≡ Some number → (goal : ℕ) × (number ≡ suc goal)
  unfolding lowest_goal
  lowest_at roles number e = number_at _ e

  -- A person's own goal has a number exactly when the person is present and L and that goal is the lowest.
  pub own_exact : (p : Person) (goal : ℕ) → own_goal goals p ≡ Some (suc goal) ↔ ((p.present ≡ true) × (p.clearance ≡ L) × Lowest goals p.roles goal)
  unfolding own_goal
  own_exact p goal = (go p.present p.clearance refl refl, λ (here, low, lowest). rw (here, low) ((lowest_exact p.roles goal).1 lowest))
    where
      go : (b d : Bool) → p.present ≡ b → p.clearance ≡ d → own_goal goals p ≡ Some (suc goal) → (p.present ≡ true) × (p.clearance ≡ L) × Lowest goals p.roles goal
      go false d gone at e = absurd (none-some _ (rw gone at e))
      go true true here high e = absurd (none-some _ (rw (here, high) at e))
      go true false here low e = (here, low, (lowest_exact p.roles goal).0 (rw (here, low) at e))

  -- a person's own goal, where there is one, is at a place
  own_at : (p : Person) (number : ℕ) → own_goal goals p ≡ Some number → (goal : ℕ) × (number ≡ suc goal)
  unfolding own_goal
  own_at p number = go p.present p.clearance
    where
      go : (b d : Bool) → cond (b && not d) (lowest_goal goals p.roles) None ≡ Some number → (goal : ℕ) × (number ≡ suc goal)
      go false d e = absurd (none-some _ e)
      go true true e = absurd (none-some _ e)
      go true false e = lowest_at p.roles number e

  -- A person is bad exactly when the person is present and L and holds all roles of some goal.
  pub person_bad : (p : Person) → bad_person goals p ≡ true ↔ HoldsGoal goals p
  unfolding own_goal bad_person
  person_bad p = (told (own_goal goals p) refl, λ holds. tests holds (own_goal goals p) refl)
    where
      told : (o : Option ℕ) → own_goal goals p ≡ o → is_some o ≡ true → HoldsGoal goals p
      told None e some = absurd (false≢true some)
      told (Some number) e some =
          let (goal, is) = own_at p number e in
          let (here, low, lowest) = (own_exact p goal).0 (e ∙ ap Some is) in
          record { present = here; low = low; goal = goal_at goals goal; listed = goal-listed goals goal lowest.inside; whole = lowest.whole }

      tests : HoldsGoal goals p → (o : Option ℕ) → own_goal goals p ≡ o → is_some o ≡ true
      tests holds None e = absurd ((lowest_none p.roles).0 (rw (holds.present, holds.low) at e) holds.goal holds.listed holds.whole)
      tests holds (Some number) e = refl

  -- ---- a state

  module _ (σ : State) where
    -- what is found where the first person who is bad is at this place
    found_first : {user : ℕ} → Earliest (bad_person goals) nobody σ user → {goal : ℕ} → own_goal goals (person σ user) ≡ Some goal → first_bad σ goals ≡ Some (record { user = suc user; goal = goal })
    unfolding first_bad found_at
    found_first {user} found own =
        ap (option_and_then (found_at σ goals)) ((place_some (bad_person goals) nobody σ user).1 found)
        ∙ ap (option_map (λ goal. record { user = suc user; goal = goal })) own

    nobody_found : Nowhere (bad_person goals) nobody σ → first_bad σ goals ≡ None
    unfolding first_bad
    nobody_found nowhere = ap (option_and_then (found_at σ goals)) ((place_none (bad_person goals) nobody σ).1 nowhere)

    -- the first person who is bad is the first such user
    first_found : (user : ℕ) → Earliest (bad_person goals) nobody σ user → (found : Found) × (first_bad σ goals ≡ Some found) × FirstBad goals σ found
    unfolding person bad_person
    first_found user found = go (own_goal goals (person σ user)) refl found.passes
      where
        go : (o : Option ℕ) → own_goal goals (person σ user) ≡ o → is_some o ≡ true → (found : Found) × (first_bad σ goals ≡ Some found) × FirstBad goals σ found
        go None e some = absurd (false≢true some)
        go (Some number) e some =
            let (goal, is) = own_at (person σ user) number e in
            let (here, low, lowest) = (own_exact (person σ user) goal).0 (e ∙ ap Some is) in (
              record { user = suc user; goal = number },
              found_first found e,
              record {
                user = user;
                goal = goal;
                user_number = refl;
                goal_number = is;
                present = record { listed = found.inside; here = here };
                low = low;
                inside = lowest.inside;
                holds = record { all = lowest.whole };
                earlier = λ other lt holds. (refuted _).0 (found.earlier other lt) ((person_bad (person σ other)).1 holds);
                lower = λ other lt holds. lowest.lower other lt holds.all;
              },
            )

    -- Nobody is found exactly when the state is not bad.
    pub bad_exact : first_bad σ goals ≡ None ↔ (Bad goals σ → ⊥)
    unfolding person
    bad_exact = (λ e. told e (look (bad_person goals) nobody σ), λ none. tests none (look (bad_person goals) nobody σ))
      where
        told : first_bad σ goals ≡ None → ((place : ℕ) × Earliest (bad_person goals) nobody σ place) ⊎ Nowhere (bad_person goals) nobody σ → Bad goals σ → ⊥
        told e (inl (user, found)) bad = let (one, is, first) = first_found user found in none-some one (sym e ∙ is)
        told e (inr nowhere) bad =
            (refuted _).0 (nowhere.fails bad.user bad.present.listed)
            ((person_bad (person σ bad.user)).1 (record { present = bad.present.here; low = bad.low; goal = bad.goal; listed = bad.listed; whole = bad.holds.all }))

        tests : (Bad goals σ → ⊥) → ((place : ℕ) × Earliest (bad_person goals) nobody σ place) ⊎ Nowhere (bad_person goals) nobody σ → first_bad σ goals ≡ None
        tests none (inl (user, found)) =
            let holds = (person_bad (person σ user)).0 found.passes in
            absurd (none (record { user = user; present = record { listed = found.inside; here = holds.present }; low = holds.low; goal = holds.goal; listed = holds.listed; holds = record { all = holds.whole } }))
        tests none (inr nowhere) = nobody_found nowhere

    -- Who is found is the first user, with that user's lowest goal;
    pub bad_first : {found : Found} → first_bad σ goals ≡ Some found → FirstBad goals σ found
    bad_first {found} is = go (look (bad_person goals) nobody σ)
      where
        go : ((place : ℕ) × Earliest (bad_person goals) nobody σ place) ⊎ Nowhere (bad_person goals) nobody σ → FirstBad goals σ found
        go (inl (user, earliest)) = let (one, told, first) = first_found user earliest in subst (FirstBad goals σ) (same_Some _ _ (sym told ∙ is)) first
        go (inr nowhere) = absurd (none-some found (sym (nobody_found nowhere) ∙ is))

    -- and there is one such answer only.
    pub first_only : {found : Found} → FirstBad goals σ found → first_bad σ goals ≡ Some found
    unfolding person
    first_only {found} answer = found_first earliest own ∙ (λ i. Some (record { user = sym answer.user_number i; goal = sym answer.goal_number i }))
      where
        lowest : Lowest goals (person σ answer.user).roles answer.goal
        lowest = record { inside = answer.inside; whole = answer.holds.all; lower = λ other lt whole. answer.lower other lt (record { all = whole }) }

        own : own_goal goals (person σ answer.user) ≡ Some (suc answer.goal)
        own = (own_exact (person σ answer.user) answer.goal).1 (answer.present.here, answer.low, lowest)

        earliest : Earliest (bad_person goals) nobody σ answer.user
        earliest = record {
          inside = answer.present.listed;
          passes = (person_bad (person σ answer.user)).1 (record { present = answer.present.here; low = answer.low; goal = goal_at goals answer.goal; listed = goal-listed goals answer.goal answer.inside; whole = answer.holds.all });
          earlier = λ other lt. (refuted _).1 (λ e. answer.earlier other lt ((person_bad (person σ other)).0 e));
        }

-- A state with such a user is bad.
pub first_is_bad : {goals : List RoleSet} {σ : State} {found : Found} → FirstBad goals σ found → Bad goals σ
first_is_bad {goals} answer = record {
  user = answer.user;
  present = answer.present;
  low = answer.low;
  goal = goal_at goals answer.goal;
  listed = goal-listed goals answer.goal answer.inside;
  holds = answer.holds;
}

-- Where nobody is found there is no goal either.
pub none_found : (σ : State) (goals : List RoleSet) → first_bad σ goals ≡ None → option_map (λ (found : Found). found.goal) (first_bad σ goals) ≡ None
none_found σ goals e = ap (option_map (λ (found : Found). found.goal)) e
