-- A name that is missing in the tree is new, and is put into it by one link.
use Prim.Native.Nat.{ℕ, suc, ◌+◌, ◌<◌, ◌≤◌}
use Rattle.std.specs.Prelude.{Bool, true, false, List, reverse, ◌⊎◌, ◌≡◌, refl, length, set, Option, Some, None, is_some}
use Rattle.std.proofs.lemmas.List.{reverse-reverse}
use Rattle.std.proofs.Math.Logic.{inl, inr, ⊎_elim}
use Rattle.std.proofs.Math.Path.{sym, ap}
use Rattle.std.proofs.Common.{◌∙◌, get_or-set_other, arith}
use Rattle.std.proofs.lemmas.Bool.{false≢true}
use Rattle.std.proofs.Math.ListN.{get_or}
use Rattle.std.proofs.Math.Seq.{get_or-set_same}
use Rattle.std.proofs.Math.Decide.{dec_lt, ℕ_discrete}
use Rattle.text.specs.Pieces.{among, repeated}
use Rattle.distinct.specs.declared.Name.{Name}
use Rattle.distinct.specs.declared.Gap.{Gap}
use Rattle.distinct.specs.Names.{symbol, before, names, Ended, before_comma, names_comma, names-ended}
use Rattle.distinct.specs.Plain.{Plain, plain_ordered, plain_other, plain_rest, plain_names}
use Rattle.distinct.specs.Heads.{head_of, head_below}
use Rattle.distinct.specs.Tree.{Led, Tree, Kept, led_back, led_along, led_kept, set_kept}
use Rattle.distinct.specs.Walk.{Missing}
use Rattle.distinct.specs.Answers.{Named, Searched}

-- the head of a name is one of the heads
pub named-below : {field : List ℕ} {heads from : ℕ} {name : Name} → Named field heads from name → 0 < heads → name.head < heads
named-below {field} {heads} {name = name} named some = rw named.head (head_below field heads (before field name.end) some)

module _ {field links : List ℕ} {heads from slot at : ℕ} {name : Name} (named : Named field heads from name)
    (searched : Missing field links heads name.head from slot at) where
  -- what is missing is the name under its head
  missing : Missing field links heads (head_of field heads (before field name.end)) from slot at
  missing = rw named.head at searched

  -- what is left of the name
  rest : Plain field at name.end
  rest = plain_rest missing.plain named.ends

  -- the place for the link is in the name, and the slot is that of a head or of a place before the name
  pub missing_inside : (at ≤ name.end) × (slot < heads + from)
  missing_inside = (plain_ordered rest, missing.near)

  -- the name is not among those of the tree
  pub name_new : {limit : ℕ} → Tree field links heads limit → among (reverse (before field name.end)) (names field limit) ≡ false
  name_new {limit} tree = go (among (reverse (before field name.end)) (names field limit)) refl
    where
      clash : Ended field (reverse (before field name.end)) limit → ⊥
      clash h =
          let same : before field h.end ≡ before field name.end = sym (reverse-reverse (before field h.end)) ∙ ap reverse h.name ∙ reverse-reverse (before field name.end) in
          let byte : symbol field h.end ≡ symbol field name.end = h.comma ∙ sym named.ends.comma in
          missing.lost (led_back rest (rw (same, byte) at (tree.stored h.end h.earlier h.comma).1)).1

      go : (t : Bool) → among (reverse (before field name.end)) (names field limit) ≡ t → t ≡ false
      go true e = absurd (clash (names-ended field (reverse (before field name.end)) limit e))
      go false e = refl

  module _ (tree : Tree field links heads from) (inside : slot < length links) where
    -- the links with the new one
    grown : List ℕ
    grown = set links slot (suc at)

    -- every link stays
    kept : Kept links grown
    unfolding grown
    kept = set_kept links slot (suc at) missing.empty

    -- and the new one is there
    own : get_or grown slot 0 ≡ suc at
    unfolding grown
    own = get_or-set_same links slot (suc at) 0 inside

    -- a link is the new one or was there
    which : (s place : ℕ) → get_or grown s 0 ≡ suc place → ((s ≡ slot) × (place ≡ at)) ⊎ (get_or links s 0 ≡ suc place)
    unfolding grown
    which s place held = go (ℕ_discrete s slot)
      where
        go : Dec (s ≡ slot) → ((s ≡ slot) × (place ≡ at)) ⊎ (get_or links s 0 ≡ suc place)
        go (yes h) =
            let same : suc place ≡ suc at = sym held ∙ ap (λ (n : ℕ). get_or grown n 0) h ∙ own in
            inl (h, omega arith)
        go (no h) = inr (sym (get_or-set_other links slot s (suc at) 0 h) ∙ held)

    -- the new name and all before it are followed to their ends
    stored : (end : ℕ) → end < suc name.end → symbol field end ≡ 44
        → (last : ℕ) × Led field grown heads (head_of field heads (before field end)) (before field end) (symbol field end) last
    stored end less comma = go (dec_lt end from) (ℕ_discrete end name.end)
      where
        go : Dec (end < from) → Dec (end ≡ name.end)
            → (last : ℕ) × Led field grown heads (head_of field heads (before field end)) (before field end) (symbol field end) last
        go (yes old) d = let led = tree.stored end old comma in (led.0, led_kept kept led.1)
        go (no h) (yes new) = (name.end, rw new (led_along rest (missing.put kept own)))
        go (no h) (no other) = absurd (plain_other named.ends.plain end (omega arith) (omega arith) comma)

    -- the tree with the name
    pub tree_grown : Tree field (set links slot (suc at)) heads (suc name.end)
    unfolding grown repeated
    tree_grown =
        record {
          begins = before_comma field name.end named.ends.comma;
          rising = λ s p h. ⊎_elim (λ w. omega (arith, missing.near, plain_ordered missing.plain)) (λ w. tree.rising s p w) (which s p h);
          earlier = λ s p h. ⊎_elim (λ w. omega (arith, plain_ordered rest)) (λ w. omega (arith, tree.earlier s p w, plain_ordered named.ends.plain)) (which s p h);
          spelt = λ s p h. ⊎_elim (λ w. rw (w.0, w.1) (sym missing.same)) (λ w. tree.spelt s p w) (which s p h);
          stored = stored;
          single = rw (names_comma field name.end named.ends.comma, plain_names named.ends.plain, name_new tree) tree.single;
        }

-- a name that is not found is not among those of the tree
pub unfound_new : {field links : List ℕ} {heads from limit : ℕ} {name : Name} (search : Option Gap) → is_some search ≡ true → Named field heads from name → Searched field links heads name.head from search
    → Tree field links heads limit → among (reverse (before field name.end)) (names field limit) ≡ false
unfound_new None some named searched tree = absurd (false≢true some)
unfound_new (Some gap) some named searched tree = name_new named searched tree
