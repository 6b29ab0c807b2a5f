-- A policy is spelt in order: its has lines by user, then by role, and the names of each set by role.
use Prim.Native.Nat.{ℕ, zero, suc, ◌≤◌, ◌<◌}
use Rattle.std.specs.Prelude.{Bool, cond, ◌≡◌}
use Rattle.std.proofs.Math.Bool.{true, false}
use mathlib.Core.List.Memᴰ
use mathlib.Core.List.Memᴰ.{head as here}
use mathlib.Core.List.Memᴰ.{tail as later}
use mathlib.Core.List.{List, [], ◌∷◌, ◌++◌, IsChain, Memᴰ as Listed}
use Rattle.std.proofs.Math.Path.{refl, ap₂, subst}
use Rattle.std.proofs.Common.{sym, ap, ◌∙◌, zero-add}
use Rattle.std.proofs.Math.Logic.{⊎_elim}
use Rattle.std.proofs.Math.ListN.{length}
use native.Mathlib.Omega.{arith}
use Rattle.roles.specs.declared.RoleSet.{RoleSet}
use Rattle.roles.specs.Sets.{has_role}
use Rattle.model.specs.Policy.{person}
use Rattle.text.specs.Forms.{names_of}
use Rattle.tables.specs.declared.Name.{Name}
use Rattle.tables.specs.Names.{name_at}
use Rattle.tables.specs.Named.{Named}
use Rattle.lines.specs.declared.Entry.{Entry}
use Rattle.reading.specs.Policy.{Said}
use Rattle.writing.specs.Written.{spelled}
use Rattle.spelling.specs.TypingText.{set_text}
use Rattle.drafting.specs.declared.Block.{Block}
use Rattle.drafting.specs.PolicyText.{element, first_of, block_of, block_size}
use Rattle.reordering.specs.InOrder.{HasBefore, by_user, by_role, HasInOrder, NamesInOrder}
use Rattle.reordering.specs.Picked.{picked, gathered, picked_map}
use Rattle.reordering.specs.Growing.{held_picked}
use Rattle.reordering.specs.SetsAlike.{names_picked, written-names}

-- ---- lists in order

module _ {A : Type 0} {Before : A → A → Type 0} where
  -- two lists, each element of the first before each of the second
  chain_both : {xs : List A} (ys : List A) → IsChain Before xs → IsChain Before ys → ((x y : A) → Listed x xs → Listed y ys → Before x y) → IsChain Before (xs ++ ys)
  chain_both ys IsChain.nil second each = second
  chain_both [] (IsChain.singleton x) second each = IsChain.singleton x
  chain_both (y ∷ ys) (IsChain.singleton x) second each = IsChain.cons-cons (each x y (here refl) (here refl)) second
  chain_both ys (IsChain.cons-cons before first) second each = IsChain.cons-cons before (chain_both ys first second (λ x y in-first in-second. each x y (later in-first) in-second))

  -- an element before every one of a list
  chain_first : (x : A) {xs : List A} → IsChain Before xs → ((y : A) → Listed y xs → Before x y) → IsChain Before (x ∷ xs)
  chain_first x {xs} rest each = chain_both xs (IsChain.singleton x) rest (λ first y is in_rest. subst (λ (a : A). Before a y) (sym (Memᴰ.eq_of_singleton is)) (each y in_rest))

-- ---- what stands at the places of a set's roles

module _ {A : Type 0} (f : ℕ → A) where
  -- each of them stands at or past the first place
  picked_past : (place count : ℕ) (set : RoleSet) {x : A} → Listed x (picked f place count set) → (at : ℕ) × (place ≤ at) × (x ≡ f at)
  unfolding picked
  picked_past place zero set listed = absurd (Memᴰ.not-nil listed)
  picked_past place (suc count) set {x} listed = go (has_role set place) listed (picked_past (suc place) count set)
    where
      Past : ℕ → Type 0
      Past from = (at : ℕ) × (from ≤ at) × (x ≡ f at)

      on : Past (suc place) → Past place
      on (at, past, is) = (at, omega (arith, past), is)

      go : (b : Bool) → Listed x (cond b (f place ∷ picked f (suc place) count set) (picked f (suc place) count set)) → (Listed x (picked f (suc place) count set) → Past (suc place)) → Past place
      go true more rest = ⊎_elim (λ is. (place, omega arith, is)) (λ later. on (rest later)) (Memᴰ.cases_cons more)
      go false more rest = on (rest more)

  -- so they are in order where places are
  picked_chain : (Before : A → A → Type 0) → ((place later : ℕ) → place < later → Before (f place) (f later)) → (place count : ℕ) (set : RoleSet) → IsChain Before (picked f place count set)
  unfolding picked
  picked_chain Before each place zero set = IsChain.nil
  picked_chain Before each place (suc count) set = go (has_role set place) (picked_chain Before each (suc place) count set)
    where
      go : (b : Bool) → IsChain Before (picked f (suc place) count set) → IsChain Before (cond b (f place ∷ picked f (suc place) count set) (picked f (suc place) count set))
      go true rest = chain_first (f place) rest (λ x listed. let (at, past, is) = picked_past (suc place) count set listed in subst (Before (f place)) (sym is) (each place at (omega (arith, past))))
      go false rest = rest

-- ---- has lines

module _ (s : Said) where
  -- those of a user, as an element of the block
  abbrev held_of : ℕ → List Entry
  held_of user = picked (Entry.Has user) 0 (length s.roles) (person s.holdings user).roles

  -- A line of the first users is of one of them.
  first_below : (count : ℕ) {entry : Entry} → Listed entry (gathered held_of count) → (user : ℕ) × (role : ℕ) × (user < count) × (entry ≡ Entry.Has user role)
  unfolding gathered
  first_below zero listed = absurd (Memᴰ.not-nil listed)
  first_below (suc count) {entry} listed =
      ⊎_elim
      (λ earlier. let (user, role, below, is) = first_below count earlier in (user, role, omega (arith, below), is))
      (λ last. let (role, past, is) = picked_past (Entry.Has count) 0 (length s.roles) (person s.holdings count).roles last in (count, role, omega arith, is))
      (Memᴰ.append_cases (gathered held_of count) listed)

  first_chain : (count : ℕ) → IsChain HasBefore (gathered held_of count)
  unfolding gathered
  first_chain zero = IsChain.nil
  first_chain (suc count) =
      let roles = length s.roles in
      let held = (person s.holdings count).roles in
      chain_both (held_of count) (first_chain count) (picked_chain (Entry.Has count) HasBefore (λ role later. by_role) 0 roles held)
      (λ one two first last. before (first_below count first) (picked_past (Entry.Has count) 0 roles held last))
    where
      before : {one two : Entry} → (user : ℕ) × (role : ℕ) × (user < count) × (one ≡ Entry.Has user role) → (at : ℕ) × (0 ≤ at) × (two ≡ Entry.Has count at) → HasBefore one two
      before {one} {two} (user, role, below, is) (at, past, so) = subst (λ (e : Entry). HasBefore e two) (sym is) (subst (HasBefore (Entry.Has user role)) (sym so) (by_user below))

  -- the first users' lines, as the block has them
  first_gathered : (count : ℕ) → first_of s Block.Has count ≡ gathered held_of count
  unfolding first_of element gathered
  first_gathered zero = refl
  first_gathered (suc count) = ap₂ ◌++◌ (first_gathered count) (held_picked count 0 (person s.holdings count).roles s.roles)

  -- The has lines of a spelling are in user order, then role order.
  pub has_in_order : HasInOrder (block_of s Block.Has)
  unfolding block_of
  has_in_order = let count = block_size s Block.Has in record { ascending = subst (IsChain HasBefore) (sym (first_gathered count)) (first_chain count) }

-- ---- names

-- The names of a set that is spelt are in role order.
pub set_in_order : {table : List Name} → Named table → (set : RoleSet) → NamesInOrder table (names_of (set_text table set))
set_in_order {table} named set =
    record {
      roles = picked (λ (role : ℕ). role) 0 (length table) set;
      ascending = picked_chain (λ (role : ℕ). role) ◌<◌ (λ role later below. below) 0 (length table) set;
      named = written-names named set ∙ names_picked table table 0 set (λ k. ap (name_at table) (sym (zero-add k))) ∙ sym (picked_map (λ (role : ℕ). spelled (name_at table role)) (λ (role : ℕ). role) 0 (length table) set);
    }
