-- The blocks of a policy that is written, in their order: each leads from the parts above it to those with its own.
use Prim.Native.Nat.{ℕ, zero, suc, ◌≤◌, ◌<◌}
use mathlib.Core.List.{List, [], ◌∷◌, ◌++◌, map, Memᴰ as Listed}
use Rattle.std.specs.Prelude.{◌≡◌, length, get_or}
use Rattle.std.proofs.Math.Path.{sym, ap, subst}
use Rattle.std.proofs.Common.{◌∙◌, take-suc, take_all, arith}
use Rattle.std.proofs.Math.ListN.{take, length-map, get_or-map}
use Rattle.std.proofs.Math.Seq.{take-length, length-take-le}
use Rattle.roles.specs.declared.RoleSet.{RoleSet}
use Rattle.roles.specs.Sets.{empty_set}
use Rattle.model.specs.declared.Assign.{Assign}
use Rattle.model.specs.declared.Revoke.{Revoke}
use Rattle.model.specs.declared.Person.{Person}
use Rattle.model.specs.Policy.{no_assign, no_revoke, State, newcomer, nobody, person, joined}
use Rattle.tables.specs.declared.Name.{Name}
use Rattle.tables.specs.Names.{packed, name_at}
use Rattle.steps.proofs.PlaceLaws.{stands_at, at_listed}
use Rattle.lines.specs.declared.Entry.{Entry}
use Rattle.lines.specs.Lines.{header_kind, role_kind, user_kind, assign_kind, revoke_kind, goal_kind}
use Rattle.reading.specs.Policy.{Said, nothing, at_stage, kind_of, noted, added}
use Rattle.reading.specs.Sound.{Sound}
use Rattle.drafting.specs.declared.Block.{Block}
use Rattle.drafting.specs.PolicyText.{block_size, element, first_of, block_of}
use Rattle.reviewing.specs.Names.{at_spelt, new_at}
use Rattle.reviewing.specs.Lines.{header_taken, role_taken, user_taken, assign_taken, revoke_taken, goal_taken}
use Rattle.reviewing.specs.Runs.{Goods, done, more, goods_join, Ways, Through, through_none, ways_join, through_join, one_goods, through_one}
use Rattle.reviewing.specs.Goals.{Goals}
use Rattle.reviewing.specs.Holdings.{parts, without, has_block}

-- what stands at a place of a list is listed
stands_listed : {A : Type 0} (past : A) (l : List A) (place : ℕ) → place < length l → Listed (get_or l place past) l
stands_listed past l place here = at_listed (stands_at past l place here)

module _ {s : Said} (sound : Sound s) where
  -- entries up to a kind lead on from any stage up to it
  abbrev Leads : ℕ → Said → List Entry → Said → Type 0
  Leads kind x entries y = Through s.roles s.users kind x entries y

  -- what is said with all users and what they hold, and with some rules and goals
  abbrev ruled : List Assign → List Revoke → List RoleSet → Said
  ruled assigns revokes goals = parts s.roles s.users s.holdings assigns revokes goals

  -- ---- the names

  roles_first : (count : ℕ) → count ≤ length s.roles → Leads role_kind (parts [] [] [] [] [] []) (first_of s Block.Roles count) (parts (take count s.roles) [] [] [] [] [])
  unfolding first_of element added noted kind_of name_at
  roles_first zero fits = through_none
  roles_first (suc count) fits =
      through_join (roles_first count (omega arith))
      (through_one (omega arith)
      (λ from ready. role_taken s.roles s.users (at_stage from (parts (take count s.roles) [] [] [] [] [])) (at_spelt sound.roles.named fits) ready (new_at sound.roles.named count fits)
      (omega (arith, length-take-le count s.roles (omega arith), sound.roles.most)))
      (λ from i. at_stage role_kind (parts (sym (take-suc s.roles count (packed []) fits) i) [] [] [] [] [])))

  roles_block : Leads role_kind (parts [] [] [] [] [] []) (block_of s Block.Roles) (parts s.roles [] [] [] [] [])
  unfolding block_of block_size
  roles_block =
      subst (λ (l : List Name). Leads role_kind (parts [] [] [] [] [] []) (first_of s Block.Roles (length s.roles)) (parts l [] [] [] [] [])) (take-length s.roles)
      (roles_first (length s.roles) (omega arith))

  -- a user more, with a clearance and no roles
  person_more : (count : ℕ) → count < length s.users → joined (take count (map without s.holdings)) (person s.holdings count).clearance ≡ take (suc count) (map without s.holdings)
  unfolding person newcomer joined
  person_more count here =
      let there = (sound.holdings (person s.holdings count) (stands_listed nobody s.holdings count (omega (arith, sound.people, here)))).here in
      let new : newcomer (person s.holdings count).clearance ≡ without (person s.holdings count) = λ i. record { clearance = (person s.holdings count).clearance; present = sym there i; roles = empty_set } in
      ap (λ (p : Person). take count (map without s.holdings) ++ (p ∷ [])) (new ∙ sym (get_or-map without s.holdings count nobody))
      ∙ sym (take-suc (map without s.holdings) count (without nobody) (omega (arith, length-map s.holdings without, sound.people, here)))

  users_first : (count : ℕ) → count ≤ length s.users
      → Leads user_kind (parts s.roles [] [] [] [] []) (first_of s Block.Users count) (parts s.roles (take count s.users) (take count (map without s.holdings)) [] [] [])
  unfolding first_of element added noted kind_of name_at
  users_first zero fits = through_none
  users_first (suc count) fits =
      through_join (users_first count (omega arith))
      (through_one (omega arith)
      (λ from ready. user_taken s.roles s.users (at_stage from (parts s.roles (take count s.users) (take count (map without s.holdings)) [] [] [])) (at_spelt sound.users.named fits) ready
      (person s.holdings count).clearance (new_at sound.users.named count fits) (omega (arith, length-take-le count s.users (omega arith), sound.users.most)))
      (λ from i. at_stage user_kind (parts s.roles (sym (take-suc s.users count (packed []) fits) i) (person_more count fits i) [] [] [])))

  users_block : Leads user_kind (parts s.roles [] [] [] [] []) (block_of s Block.Users) (parts s.roles s.users (map without s.holdings) [] [] [])
  unfolding block_of block_size
  users_block =
      subst (λ (l : List Name). Leads user_kind (parts s.roles [] [] [] [] []) (first_of s Block.Users (length s.users)) (parts s.roles l (map without s.holdings) [] [] [])) (take-length s.users)
      (subst (λ (σ : State). Leads user_kind (parts s.roles [] [] [] [] []) (first_of s Block.Users (length s.users)) (parts s.roles (take (length s.users) s.users) σ [] [] []))
      (take_all (length s.users) (map without s.holdings) (omega (arith, length-map s.holdings without, sound.people)))
      (users_first (length s.users) (omega arith)))

  -- ---- the rules

  assigns_first : (count : ℕ) → count ≤ length s.assigns
      → Leads assign_kind (ruled [] [] []) (first_of s Block.Assigns count) (ruled (take count s.assigns) [] [])
  unfolding first_of element added noted kind_of
  assigns_first zero fits = through_none
  assigns_first (suc count) fits =
      through_join (assigns_first count (omega arith))
      (through_one (omega arith)
      (λ from ready. assign_taken (at_stage from (ruled (take count s.assigns) [] [])) sound.roles.named sound.users.named ready
      (sound.assigns.each (get_or s.assigns count no_assign) (stands_listed no_assign s.assigns count fits)) (omega (arith, length-take-le count s.assigns (omega arith), sound.assigns.most)))
      (λ from i. at_stage assign_kind (ruled (sym (take-suc s.assigns count no_assign fits) i) [] [])))

  assigns_block : Leads assign_kind (ruled [] [] []) (block_of s Block.Assigns) (ruled s.assigns [] [])
  unfolding block_of block_size
  assigns_block =
      subst (λ (l : List Assign). Leads assign_kind (ruled [] [] []) (first_of s Block.Assigns (length s.assigns)) (ruled l [] []))
      (take-length s.assigns) (assigns_first (length s.assigns) (omega arith))

  revokes_first : (count : ℕ) → count ≤ length s.revokes
      → Leads revoke_kind (ruled s.assigns [] []) (first_of s Block.Revokes count) (ruled s.assigns (take count s.revokes) [])
  unfolding first_of element added noted kind_of
  revokes_first zero fits = through_none
  revokes_first (suc count) fits =
      through_join (revokes_first count (omega arith))
      (through_one (omega arith)
      (λ from ready. revoke_taken (at_stage from (ruled s.assigns (take count s.revokes) [])) sound.roles.named sound.users.named ready
      (sound.revokes.each (get_or s.revokes count no_revoke) (stands_listed no_revoke s.revokes count fits)) (omega (arith, length-take-le count s.revokes (omega arith), sound.revokes.most)))
      (λ from i. at_stage revoke_kind (ruled s.assigns (sym (take-suc s.revokes count no_revoke fits) i) [])))

  revokes_block : Leads revoke_kind (ruled s.assigns [] []) (block_of s Block.Revokes) (ruled s.assigns s.revokes [])
  unfolding block_of block_size
  revokes_block =
      subst (λ (l : List Revoke). Leads revoke_kind (ruled s.assigns [] []) (first_of s Block.Revokes (length s.revokes)) (ruled s.assigns l []))
      (take-length s.revokes) (revokes_first (length s.revokes) (omega arith))

  -- ---- the goals

  module _ (goals : Goals s) where
    -- one more leads to the stage of a goal
    goal_goods : (count from : ℕ) → count < length s.goals → header_kind ≤ from → from ≤ goal_kind
        → Goods s.roles s.users (at_stage from (ruled s.assigns s.revokes (take count s.goals))) (element s Block.Goals count) (at_stage goal_kind (ruled s.assigns s.revokes (take (suc count) s.goals)))
    unfolding element added noted kind_of
    goal_goods count from here least most =
        let listed = stands_listed empty_set s.goals count here in
        one_goods
        (goal_taken (at_stage from (ruled s.assigns s.revokes (take count s.goals))) sound.roles.named sound.users.named (record { least = least; most = most }) (sound.goals.each (get_or s.goals count empty_set) listed)
        (goals.each (get_or s.goals count empty_set) listed) (omega (arith, length-take-le count s.goals (omega arith), sound.goals.most)))
        (λ i. at_stage goal_kind (ruled s.assigns s.revokes (sym (take-suc s.goals count empty_set here) i)))

    goals_first : (count : ℕ) → count ≤ length s.goals → Leads goal_kind (ruled s.assigns s.revokes []) (first_of s Block.Goals count) (ruled s.assigns s.revokes (take count s.goals))
    unfolding first_of
    goals_first zero fits = through_none
    goals_first (suc count) fits =
        through_join (goals_first count (omega arith)) (record { ways = λ from least most. record { to = goal_kind; least = omega arith; most = omega arith; goods = goal_goods count from fits least most } })

    -- at least one, from any stage
    goals_after : (count from : ℕ) → 0 < count → count ≤ length s.goals → header_kind ≤ from → from ≤ goal_kind
        → Goods s.roles s.users (at_stage from (ruled s.assigns s.revokes [])) (first_of s Block.Goals count) (at_stage goal_kind (ruled s.assigns s.revokes (take count s.goals)))
    unfolding first_of
    goals_after zero from some fits least most = absurd (omega arith)
    goals_after (suc count) from some fits least most =
        let w = (goals_first count (omega arith)).ways from least most in
        goods_join w.goods (goal_goods count w.to fits w.least w.most)

    -- the block of goals, of which there is one at least
    goals_block : (from : ℕ) → header_kind ≤ from → from ≤ goal_kind → 0 < length s.goals
        → Goods s.roles s.users (at_stage from (ruled s.assigns s.revokes [])) (block_of s Block.Goals) (at_stage goal_kind (ruled s.assigns s.revokes s.goals))
    unfolding block_of block_size
    goals_block from least most some =
        subst (λ (l : List RoleSet). Goods s.roles s.users (at_stage from (ruled s.assigns s.revokes [])) (first_of s Block.Goals (length s.goals)) (at_stage goal_kind (ruled s.assigns s.revokes l))) (take-length s.goals)
        (goals_after (length s.goals) from some (omega arith) least most)

  -- ---- all blocks

  -- the header before them
  header_ways : Ways s.roles s.users header_kind 0 (parts [] [] [] [] [] []) (Entry.Header ∷ []) (parts [] [] [] [] [] [])
  unfolding nothing added noted kind_of
  header_ways = record { to = header_kind; least = omega arith; most = omega arith; goods = more (header_taken s.roles s.users) done }

  -- The header and the blocks lead from nothing to all that is said.
  pub blocks_good : Goals s → s.stage ≡ goal_kind → 0 < length s.goals
      → Goods s.roles s.users nothing ((Entry.Header ∷ []) ++ block_of s Block.Roles ++ block_of s Block.Users ++ block_of s Block.Has ++ block_of s Block.Assigns ++ block_of s Block.Revokes ++ block_of s Block.Goals) s
  unfolding nothing
  blocks_good goals last some =
      let named = ways_join (ways_join header_ways (omega arith) roles_block) (omega arith) users_block in
      let above = ways_join (ways_join (ways_join named (omega arith) (has_block sound)) (omega arith) assigns_block) (omega arith) revokes_block in
      subst
      (λ (t : Said). Goods s.roles s.users nothing ((Entry.Header ∷ []) ++ block_of s Block.Roles ++ block_of s Block.Users ++ block_of s Block.Has ++ block_of s Block.Assigns ++ block_of s Block.Revokes ++ block_of s Block.Goals) t)
      (λ i. at_stage (sym last i) s) (goods_join above.goods (goals_block goals above.to above.least (omega (arith, above.most)) some))
