-- The tree of the names that ended before a place: how it lies in a list of links, and how a name is followed in it.
use Rattle.std.specs.Prelude.{ℕ, zero, suc, ◌+◌, ◌-◌, ◌<◌, ◌≤◌, false, List, [], ◌∷◌, ◌≡◌, refl, get_or, set, replicate}
use Rattle.std.proofs.Common.{sym, ap, ◌∙◌, subst, get_or-set_other, arith}
use Rattle.text.specs.Pieces.{repeated}
use Rattle.distinct.specs.Names.{symbol, before, names, before_byte}
use Rattle.distinct.specs.Plain.{Plain, none, more}
use Rattle.distinct.specs.Heads.{head_of}

-- A link is 0, or a place of the field plus one. The first links are heads, each to the first place of the first name under it.
-- After them every place has a link, to a later place before which its name has the same bytes: there a name goes on with another byte.
-- The next byte of a name in the tree stands at the next place, so that no link is needed to go on with it.

-- looking for a byte from a place on: where the byte there is another, the link leads on
pub data Chain (field links : List ℕ) (heads byte : ℕ) : ℕ → ℕ → Type 0 where
  here : {place : ℕ} → symbol field place ≡ byte → Chain field links heads byte place place
  past : {place next last : ℕ} → (symbol field place ≡ byte → ⊥) → get_or links (heads + place) 0 ≡ suc next → Chain field links heads byte next last
      → Chain field links heads byte place last

-- following bytes, the last one first, from a head on: the place from which on the next byte is looked for
pub data Down (field links : List ℕ) (heads head : ℕ) : List ℕ → ℕ → Type 0 where
  root : {place : ℕ} → get_or links head 0 ≡ suc place → Down field links heads head [] place
  next : {bytes : List ℕ} {byte place last : ℕ} → Down field links heads head bytes place → Chain field links heads byte place last
      → Down field links heads head (byte ∷ bytes) (suc last)

-- bytes are followed, and then a byte is found at a place
pub record Led (field links : List ℕ) (heads head : ℕ) (bytes : List ℕ) (byte last : ℕ) : Type 0 where
  pub place : ℕ
  pub way : Down field links heads head bytes place
  pub chain : Chain field links heads byte place last

-- the tree of the names that ended before the beginning of a name, none of which stands twice
pub record Tree (field links : List ℕ) (heads limit : ℕ) : Type 0 where
  pub begins : before field limit ≡ []
  pub rising : (slot place : ℕ) → get_or links slot 0 ≡ suc place → slot < heads + place
  pub earlier : (slot place : ℕ) → get_or links slot 0 ≡ suc place → place < limit
  pub spelt : (slot place : ℕ) → get_or links slot 0 ≡ suc place → before field place ≡ before field (slot - heads)
  pub stored : (end : ℕ) → end < limit → symbol field end ≡ 44
      → (last : ℕ) × Led field links heads (head_of field heads (before field end)) (before field end) (symbol field end) last
  pub single : repeated (names field limit) ≡ false

-- links are the tree of the names that ended before the beginning of a name, or before an earlier one
pub record Planted (field links : List ℕ) (heads from : ℕ) : Type 0 where
  pub begins : before field from ≡ []
  pub limit : ℕ
  pub order : limit ≤ from
  pub tree : Tree field links heads limit

-- of all the names that ended before
pub tree_planted : {field links : List ℕ} {heads from : ℕ} → Tree field links heads from → Planted field links heads from
tree_planted {from = from} tree = record { begins = tree.begins; limit = from; order = omega arith; tree = tree }

-- every slot is empty
pub record Blank (links : List ℕ) : Type 0 where
  pub empty : (slot : ℕ) → get_or links slot 0 ≡ 0

-- zeros are empty slots
pub zeros_blank : (count : ℕ) → Blank (replicate count 0)
zeros_blank count = record { empty = at count }
  where
    at : (n slot : ℕ) → get_or {A = ℕ} (replicate n 0) slot 0 ≡ 0
    at zero slot = refl
    at (suc n) zero = refl
    at (suc n) (suc slot) = at n slot

-- with no link it is the tree of no names
pub tree_start : (field links : List ℕ) (heads : ℕ) → Blank links → Tree field links heads 0
unfolding before names repeated
tree_start field links heads blank =
    record {
      begins = refl;
      rising = λ slot place held. absurd (none_there slot place held);
      earlier = λ slot place held. absurd (none_there slot place held);
      spelt = λ slot place held. absurd (none_there slot place held);
      stored = λ end less comma. absurd (omega arith);
      single = refl;
    }
  where
    none_there : (slot place : ℕ) → get_or links slot 0 ≡ suc place → ⊥
    none_there slot place held = omega (arith, blank.empty slot)

-- ---- a name is followed in one way

module _ {field links : List ℕ} {heads : ℕ} where
  -- a byte is found at one place
  chain_one : {byte place last last' : ℕ} → Chain field links heads byte place last → Chain field links heads byte place last' → last ≡ last'
  chain_one (here same) (here same') = refl
  chain_one (here same) (past other held chain) = absurd (other same)
  chain_one (past other held chain) (here same) = absurd (other same)
  chain_one {byte} {last' = last'} (past {next = n} other held chain) (past {next = n'} other' held' chain') =
      let node : suc n' ≡ suc n = sym held' ∙ held in
      let same : n' ≡ n = omega arith in
      chain_one chain (subst (λ (p : ℕ). Chain field links heads byte p last') same chain')

  -- bytes lead to one place
  pub down_one : {head : ℕ} {bytes : List ℕ} {place place' : ℕ} → Down field links heads head bytes place → Down field links heads head bytes place' → place ≡ place'
  down_one (root held) (root held') =
      let node = sym held ∙ held' in
      omega arith
  down_one (next {byte = byte} way chain) (next {last = last'} way' chain') =
      ap suc (chain_one chain (subst (λ (p : ℕ). Chain field links heads byte p last') (sym (down_one way way')) chain'))

  -- where the byte is another and no link leads on, it is not found
  pub chain_ends : {byte place last : ℕ} → (symbol field place ≡ byte → ⊥) → get_or links (heads + place) 0 ≡ 0 → Chain field links heads byte place last → ⊥
  chain_ends other empty (here same) = other same
  chain_ends other empty (past other' held chain) = omega arith

  -- where it is another, it is looked for where the link leads
  pub chain_on : {byte place next last : ℕ} → (symbol field place ≡ byte → ⊥) → get_or links (heads + place) 0 ≡ suc next → Chain field links heads byte place last
      → Chain field links heads byte next last
  chain_on other held (here same) = absurd (other same)
  chain_on {byte} {next = n} {last = last} other held (past {next = n'} other' held' chain) =
      let node : suc n' ≡ suc n = sym held' ∙ held in
      let same : n' ≡ n = omega arith in
      subst (λ (p : ℕ). Chain field links heads byte p last) same chain

  -- from an empty head no bytes are followed
  pub down_empty : {head : ℕ} {bytes : List ℕ} {place : ℕ} → get_or links head 0 ≡ 0 → Down field links heads head bytes place → ⊥
  down_empty empty (root held) = omega arith
  down_empty empty (next way chain) = down_empty empty way

  -- ---- along the places of a name

  -- the last byte of those that are followed was found
  down_last : {head byte place : ℕ} {bytes : List ℕ} → Down field links heads head (byte ∷ bytes) place → (last : ℕ) × Led field links heads head bytes byte last
  down_last (next {place = place} {last = last} way chain) = (last, record { place = place; way = way; chain = chain })

  -- a name that is followed up to its end is followed up to each place before
  pub led_back : {head at end last : ℕ} → Plain field at end → Led field links heads head (before field end) (symbol field end) last
      → (found : ℕ) × Led field links heads head (before field at) (symbol field at) found
  led_back {last = last} none led = (last, led)
  led_back (more {at = at} plain other) led = led_back plain (down_last (rw (before_byte field at other) at led.way)).1

  -- a place that is found leads on to the end of its name
  pub led_along : {head at end : ℕ} → Plain field at end → Led field links heads head (before field at) (symbol field at) at
      → Led field links heads head (before field end) (symbol field end) end
  led_along none led = led
  led_along (more {at = at} plain other) led =
      let there = led_along plain led in
      record { place = suc at; way = rw (before_byte field at other) (next there.way there.chain); chain = here refl }

-- ---- links that are added keep every way, so names that were followed are followed still

-- every link stays
pub record Kept (links links' : List ℕ) : Type 0 where
  pub stays : (slot place : ℕ) → get_or links slot 0 ≡ suc place → get_or links' slot 0 ≡ suc place

module _ {field links links' : List ℕ} {heads : ℕ} (kept : Kept links links') where
  chain_kept : {byte place last : ℕ} → Chain field links heads byte place last → Chain field links' heads byte place last
  chain_kept (here same) = here same
  chain_kept (past other held chain) = past other (kept.stays _ _ held) (chain_kept chain)

  pub down_kept : {head : ℕ} {bytes : List ℕ} {place : ℕ} → Down field links heads head bytes place → Down field links' heads head bytes place
  down_kept (root held) = root (kept.stays _ _ held)
  down_kept (next way chain) = next (down_kept way) (chain_kept chain)

  pub led_kept : {head : ℕ} {bytes : List ℕ} {byte last : ℕ} → Led field links heads head bytes byte last → Led field links' heads head bytes byte last
  led_kept led = record { place = led.place; way = down_kept led.way; chain = chain_kept led.chain }

-- a link put into an empty slot
pub set_kept : (links : List ℕ) (slot node : ℕ) → get_or links slot 0 ≡ 0 → Kept links (set links slot node)
set_kept links slot node empty = record { stays = stays }
  where
    stays : (s place : ℕ) → get_or links s 0 ≡ suc place → get_or (set links slot node) s 0 ≡ suc place
    stays s place held = get_or-set_other links slot s node 0 other ∙ held
      where
        other : s ≡ slot → ⊥
        other same =
            let never : 0 ≡ suc place = sym empty ∙ ap (λ (n : ℕ). get_or links n 0) (sym same) ∙ held in
            omega arith
