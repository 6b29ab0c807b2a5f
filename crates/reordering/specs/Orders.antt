-- Elements in some order, and elements each like the one at its place: what stays the same.
use Rattle.std.specs.Prelude.{ℕ, suc, ◌+◌, Bool, true, false, ◌&&◌, ◌||◌, ◌≡◌, refl, length}
use mathlib.Core.List.Memᴰ.{head as front}
use mathlib.Core.List.Memᴰ.{not-nil}
use mathlib.Core.List.Memᴰ.{tail as later}
use mathlib.Core.List.{List, [], ◌∷◌, ◌++◌, Memᴰ as Listed}
use Rattle.std.proofs.Common.{sym, ap, ap₂, ◌∙◌, arith}
use Rattle.text.specs.Forms.{every}
use Rattle.text.specs.Pieces.{same_bytes, among, repeated}
use Rattle.text.specs.PieceLaws.{same_equal, equal_same}
use Rattle.reordering.specs.Alike.{Inserted, Reordered, Each}

-- ---- an order among others

module _ {A : Type 0} where
  -- A list is in its own order,
  pub reordered_own : (xs : List A) → Reordered xs xs
  reordered_own [] = Reordered.none
  reordered_own (x ∷ xs) = Reordered.put (reordered_own xs) Inserted.here

  -- an order of another list is that list in another order,
  put_front : {x : A} {rest others all : List A} → Reordered others rest → Inserted x others all → Reordered all (x ∷ rest)
  put_front order Inserted.here = Reordered.put order Inserted.here
  put_front {x = x} {rest = rest} (Reordered.put {others = others} order at) (Inserted.there {y = y} {xs = xs} {more = more} below) =
      Reordered.put (put_front {rest = others} order below) (Inserted.there at)

  pub reordered_back : {xs ys : List A} → Reordered xs ys → Reordered ys xs
  reordered_back Reordered.none = Reordered.none
  reordered_back (Reordered.put order at) = put_front (reordered_back order) at

  -- and lists after one another can be put into order one by one.
  pub inserted_join : {x : A} {others all : List A} (more : List A) → Inserted x others all → Inserted x (others ++ more) (all ++ more)
  inserted_join more Inserted.here = Inserted.here
  inserted_join more (Inserted.there below) = Inserted.there (inserted_join more below)

  pub reordered_join : {xs ys us vs : List A} → Reordered xs ys → Reordered us vs → Reordered (xs ++ us) (ys ++ vs)
  reordered_join Reordered.none below = below
  reordered_join {vs = vs} (Reordered.put order at) below = Reordered.put (reordered_join order below) (inserted_join vs at)

  -- Only one list is an order of one element.
  pub reordered_one : {x : A} {ys : List A} → Reordered (x ∷ []) ys → ys ≡ x ∷ []
  reordered_one (Reordered.put Reordered.none Inserted.here) = refl

-- ---- what is counted over the elements in turn

-- What is made of the elements one after another, where two neighbours may change places, is the same in every order.
module _ {A B : Type 0} (made : List A → B) (step : A → B → B) (steps : (x : A) (xs : List A) → made (x ∷ xs) ≡ step x (made xs)) (swap : (x y : A) (b : B) → step x (step y b) ≡ step y (step x b)) where
  inserted_made : {x : A} {others all : List A} → Inserted x others all → made all ≡ step x (made others)
  inserted_made {x} (Inserted.here {xs = xs}) = steps x xs
  inserted_made {x} (Inserted.there {y = y} {xs = xs} {more = more} below) =
      steps y more ∙ ap (step y) (inserted_made below) ∙ swap y x (made xs) ∙ ap (step x) (sym (steps y xs))

  pub reordered_made : {xs ys : List A} → Reordered xs ys → made xs ≡ made ys
  reordered_made Reordered.none = refl
  reordered_made (Reordered.put {x = x} {rest = rest} order at) = steps x rest ∙ ap (step x) (reordered_made order) ∙ sym (inserted_made at)

and_swap : (a b c : Bool) → (a && (b && c)) ≡ (b && (a && c))
and_swap true b c = refl
and_swap false true c = refl
and_swap false false c = refl

or_swap : (a b c : Bool) → (a || (b || c)) ≡ (b || (a || c))
or_swap true true c = refl
or_swap true false c = refl
or_swap false b c = refl

-- The number of elements,
pub reordered_length : {A : Type 0} {xs ys : List A} → Reordered xs ys → length xs ≡ length ys
reordered_length order = reordered_made length (λ x n. suc n) (λ x xs. refl) (λ x y n. refl) order

-- that all pass a test,
pub reordered_every : {A : Type 0} (test : A → Bool) {xs ys : List A} → Reordered xs ys → every test xs ≡ every test ys
unfolding every
reordered_every test order = reordered_made (every test) (λ x b. test x && b) (λ x xs. refl) (λ x y b. and_swap (test x) (test y) b) order

-- that a byte string is among them,
pub reordered_among : (s : List ℕ) {xs ys : List (List ℕ)} → Reordered xs ys → among s xs ≡ among s ys
unfolding among
reordered_among s order = reordered_made (among s) (λ t b. same_bytes s t || b) (λ x xs. refl) (λ x y b. or_swap (same_bytes s x) (same_bytes s y) b) order

-- that one stands twice,
pub same_bytes-back : (s t : List ℕ) → same_bytes s t ≡ same_bytes t s
unfolding same_bytes
same_bytes-back s t = go (same_bytes s t) (same_bytes t s) refl refl
  where
    go : (a b : Bool) → same_bytes s t ≡ a → same_bytes t s ≡ b → a ≡ b
    go true b one two = sym (equal_same s) ∙ ap (λ (x : List ℕ). same_bytes x s) (same_equal s t one) ∙ two
    go false true one two = sym one ∙ ap (λ (x : List ℕ). same_bytes s x) (same_equal t s two) ∙ equal_same s
    go false false one two = refl

inserted_repeated : {x : List ℕ} {others all : List (List ℕ)} → Inserted x others all → repeated all ≡ (among x others || repeated others)
unfolding repeated among
inserted_repeated Inserted.here = refl
inserted_repeated {x} (Inserted.there {y = y} {xs = xs} below) =
    ap₂ ◌||◌ (sym (reordered_among y (Reordered.put (reordered_own xs) below)) ∙ ap (λ (b : Bool). b || among y xs) (same_bytes-back y x)) (inserted_repeated below)
    ∙ turn (same_bytes x y) (among y xs) (among x xs) (repeated xs)
  where
    turn : (a b c d : Bool) → ((a || b) || (c || d)) ≡ ((a || c) || (b || d))
    turn true b c d = refl
    turn false true true d = refl
    turn false true false d = refl
    turn false false c d = refl

pub reordered_repeated : {xs ys : List (List ℕ)} → Reordered xs ys → repeated xs ≡ repeated ys
unfolding repeated
reordered_repeated Reordered.none = refl
reordered_repeated (Reordered.put {x = x} order at) = ap₂ ◌||◌ (reordered_among x order) (reordered_repeated order) ∙ sym (inserted_repeated at)

-- and the sum of the numbers of bytes.
unfoldable pub total : List (List ℕ) → ℕ
total [] = 0
total (s ∷ rest) = length s + total rest

pub reordered_total : {xs ys : List (List ℕ)} → Reordered xs ys → total xs ≡ total ys
unfolding total
reordered_total order = reordered_made total (λ s n. length s + n) (λ x xs. refl) (λ x y n. omega arith) order

-- ---- what stands in a list

module _ {A : Type 0} where
  inserted_own : {x z : A} {others all : List A} → Inserted x others all → z ≡ x → Listed z all
  inserted_own Inserted.here same = front same
  inserted_own (Inserted.there below) same = later (inserted_own below same)

  inserted_old : {x z : A} {others all : List A} → Inserted x others all → Listed z others → Listed z all
  inserted_old Inserted.here listed = later listed
  inserted_old (Inserted.there below) (front same) = front same
  inserted_old (Inserted.there below) (later listed) = later (inserted_old below listed)

  pub reordered_listed : {z : A} {xs ys : List A} → Reordered xs ys → Listed z xs → Listed z ys
  reordered_listed Reordered.none listed = absurd (not-nil listed)
  reordered_listed (Reordered.put order at) (front same) = inserted_own at same
  reordered_listed (Reordered.put order at) (later listed) = inserted_old at (reordered_listed order listed)

-- ---- each like the one at its place

module _ {A : Type 0} {Like : A → A → Type 0} where
  -- Each is like itself where all are,
  pub each_own : ((x : A) → Like x x) → (xs : List A) → Each Like xs xs
  each_own own [] = Each.none
  each_own own (x ∷ xs) = Each.more (own x) (each_own own xs)

  -- and lists after one another are so one by one.
  pub each_join : {xs ys us vs : List A} → Each Like xs ys → Each Like us vs → Each Like (xs ++ us) (ys ++ vs)
  each_join Each.none below = below
  each_join (Each.more like above) below = Each.more like (each_join above below)

  pub each_length : {xs ys : List A} → Each Like xs ys → length xs ≡ length ys
  each_length Each.none = refl
  each_length (Each.more like below) = ap suc (each_length below)

-- Byte strings that are as long one by one are as long together.
pub each_total : {Like : List ℕ → List ℕ → Type 0} {xs ys : List (List ℕ)} → ((s t : List ℕ) → Like s t → length s ≡ length t) → Each Like xs ys → total xs ≡ total ys
unfolding total
each_total long Each.none = refl
each_total long (Each.more {x = x} {y = y} like below) = ap₂ ◌+◌ (long x y like) (each_total long below)
