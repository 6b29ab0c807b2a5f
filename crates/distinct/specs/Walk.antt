-- Looking a name up in the tree, one byte at a time: where it stands, and what it means that it is missing.
use Rattle.std.specs.Prelude.{ℕ, suc, ◌+◌, ◌-◌, ◌<◌, ◌≤◌, List, [], ◌∷◌, ◌≡◌, refl, length, get_or}
use Rattle.std.proofs.Math.Bool.{true}
use Rattle.std.proofs.Common.{sym, ap, ap₂, ◌∙◌, subst, arith}
use Rattle.std.proofs.Math.Decide.{ℕ_discrete}
use Rattle.text.specs.Pieces.{split, repeated}
use Rattle.distinct.specs.Names.{symbol, before, names, before_byte, symbol_there, comma_before, names_comma, names_hold, names_repeat, repeated-names}
use Rattle.distinct.specs.Plain.{Plain, none, more, plain_ordered}
use Rattle.distinct.specs.Tree.{Chain, here, past, Down, root, next, Led, Planted, Kept, down_one, down_kept, chain_ends, chain_on, down_empty}

-- the bytes of a name up to a place were followed, and the byte there is looked for at a place of the tree
pub record Walk (field links : List ℕ) (heads head from at place : ℕ) : Type 0 where
  pub planted : Planted field links heads from
  pub inside : at ≤ length field
  pub plain : Plain field from at
  pub early : place < planted.limit
  pub same : before field place ≡ before field at
  pub first : ℕ
  pub way : Down field links heads head (before field at) first
  pub back : {links' : List ℕ} {last : ℕ} → Kept links links' → Chain field links' heads (symbol field at) place last → Chain field links' heads (symbol field at) first last
  pub forth : {last : ℕ} → Chain field links heads (symbol field at) first last → Chain field links heads (symbol field at) place last

-- a name is not in the tree: its byte at a place is not found, and a link in an empty slot would have it found
pub record Missing (field links : List ℕ) (heads head from slot at : ℕ) : Type 0 where
  pub plain : Plain field from at
  pub near : slot < heads + from
  pub same : before field (slot - heads) ≡ before field at
  pub empty : get_or links slot 0 ≡ 0
  pub lost : {last : ℕ} → Led field links heads head (before field at) (symbol field at) last → ⊥
  pub put : {links' : List ℕ} → Kept links links' → get_or links' slot 0 ≡ suc at → Led field links' heads head (before field at) (symbol field at) at

-- before a head stand no bytes
head_bytes : (field : List ℕ) (head heads : ℕ) → head < heads → before field (head - heads) ≡ []
unfolding before
head_bytes field head heads below =
    let nothing : head - heads ≡ 0 = omega arith in
    rw nothing

-- before a place's link stand the bytes of its name
own_bytes : (field : List ℕ) (heads place : ℕ) → before field (heads + place - heads) ≡ before field place
own_bytes field heads place =
    let own : heads + place - heads ≡ place = omega arith in
    rw own

module _ {field links : List ℕ} {heads from head : ℕ} (planted : Planted field links heads from) (below : head < heads) where
  -- the head leads to a place
  pub walk_start : {place : ℕ} → from ≤ length field → get_or links head 0 ≡ suc place → Walk field links heads head from from place
  walk_start {place} inside held =
      record {
        planted = planted;
        inside = inside;
        plain = none;
        early = planted.tree.earlier head place held;
        same = planted.tree.spelt head place held ∙ head_bytes field head heads below ∙ sym planted.begins;
        first = place;
        way = rw planted.begins (root held);
        back = λ kept chain. chain;
        forth = λ chain. chain;
      }

  -- the head is empty
  pub missing_start : get_or links head 0 ≡ 0 → Missing field links heads head from head from
  missing_start empty =
      record {
        plain = none;
        near = omega arith;
        same = head_bytes field head heads below ∙ sym planted.begins;
        empty = empty;
        lost = λ led. down_empty empty led.way;
        put = λ kept own. record { place = from; way = rw planted.begins (root own); chain = here refl };
      }

module _ {field links : List ℕ} {heads head from at place : ℕ} (walk : Walk field links heads head from at place) where
  -- the same byte, and no comma
  pub walk_same : symbol field place ≡ symbol field at → (symbol field at ≡ 44 → ⊥) → Walk field links heads head from (suc at) (suc place)
  walk_same byte other =
      record {
        planted = walk.planted;
        inside = symbol_there field at other;
        plain = more walk.plain other;
        early = early (ℕ_discrete (suc place) walk.planted.limit);
        same = before_byte field place (λ comma. other (sym byte ∙ comma)) ∙ ap₂ ◌∷◌ byte walk.same ∙ sym (before_byte field at other);
        first = suc place;
        way = rw (before_byte field at other) (next walk.way (walk.back (record { stays = λ slot node held. held }) (here byte)));
        back = λ kept chain. chain;
        forth = λ chain. chain;
      }
    where
      early : Dec (suc place ≡ walk.planted.limit) → suc place < walk.planted.limit
      early (yes end) = absurd (other (sym byte ∙ comma_before field place (ap (before field) end ∙ walk.planted.tree.begins)))
      early (no less) = omega (arith, walk.early)

  -- the comma: a name that ended before stands here again
  pub walk_twice : symbol field place ≡ symbol field at → symbol field at ≡ 44 → repeated (split 44 field) ≡ true
  unfolding repeated
  walk_twice byte comma =
      let there = names_hold field place at (omega (arith, walk.early, walk.planted.order, plain_ordered walk.plain)) (byte ∙ comma) in
      let twice : repeated (names field (suc at)) ≡ true = rw (names_comma field at comma, ← walk.same, there) in
      repeated-names field ∙ names_repeat field (suc at) (suc (length field)) (omega (arith, walk.inside)) twice

  module _ (other : symbol field place ≡ symbol field at → ⊥) where
    -- another byte, and a link that leads on to a later place
    pub walk_other : {node : ℕ} → get_or links (heads + place) 0 ≡ suc node → Walk field links heads head from at node
    walk_other {node} held =
        record {
          planted = walk.planted;
          inside = walk.inside;
          plain = walk.plain;
          early = walk.planted.tree.earlier (heads + place) node held;
          same = walk.planted.tree.spelt (heads + place) node held ∙ own_bytes field heads place ∙ walk.same;
          first = walk.first;
          way = walk.way;
          back = λ kept chain. walk.back kept (past other (kept.stays _ _ held) chain);
          forth = λ chain. chain_on other held (walk.forth chain);
        }

    -- another byte, and no link
    pub missing_other : get_or links (heads + place) 0 ≡ 0 → Missing field links heads head from (heads + place) at
    missing_other empty =
        record {
          plain = walk.plain;
          near = omega (arith, walk.early, walk.planted.order);
          same = own_bytes field heads place ∙ walk.same;
          empty = empty;
          lost = λ {last} led. chain_ends other empty (walk.forth (subst (λ (p : ℕ). Chain field links heads (symbol field at) p last) (down_one led.way walk.way) led.chain));
          put = λ kept own. record { place = walk.first; way = down_kept kept walk.way; chain = walk.back kept (past other own (here refl)) };
        }
