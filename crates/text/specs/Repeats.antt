-- The order in which byte strings stand does not matter to whether one stands twice.
use Rattle.std.specs.Prelude.{ℕ, Bool, true, false, ◌||◌, List, [], ◌∷◌, ◌++◌, ◌≡◌, refl}
use Rattle.std.proofs.Math.Bool.{or-true}
use Rattle.std.proofs.lemmas.Bool.{false≢true}
use Rattle.std.proofs.Common.{append-nil, sym, ap, ap₂, ◌∙◌, subst}
use Rattle.text.specs.Pieces.{same_bytes, among, repeated}
use Rattle.text.specs.PieceLaws.{same_equal, equal_same}

-- which of two byte strings is named first does not matter
pub same_turned : (s t : List ℕ) → same_bytes s t ≡ same_bytes t s
same_turned s t = go (same_bytes s t) (same_bytes t s) refl refl
  where
    turn : (x y : List ℕ) → same_bytes x y ≡ true → same_bytes y x ≡ true
    turn x y e = subst (λ (z : List ℕ). same_bytes z x ≡ true) (same_equal x y e) (equal_same x)

    go : (a b : Bool) → same_bytes s t ≡ a → same_bytes t s ≡ b → a ≡ b
    go true true e f = refl
    go false false e f = refl
    go true false e f = sym (turn s t e) ∙ f
    go false true e f = sym e ∙ turn t s f

-- a name among others stands in any place
pub among_moved : (x z : List ℕ) (xs ys : List (List ℕ)) → among z (xs ++ (x ∷ ys)) ≡ (same_bytes z x || among z (xs ++ ys))
unfolding among
among_moved x z [] ys = refl
among_moved x z (y ∷ xs) ys = rw (among_moved x z xs ys) (swap (same_bytes z y) (same_bytes z x) (among z (xs ++ ys)))
  where
    swap : (a b c : Bool) → (a || (b || c)) ≡ (b || (a || c))
    swap true b c = sym (or-true b)
    swap false b c = refl

-- a name may be moved to the front
pub repeated_moved : (x : List ℕ) (xs ys : List (List ℕ)) → repeated (xs ++ (x ∷ ys)) ≡ repeated (x ∷ (xs ++ ys))
unfolding among repeated
repeated_moved x [] ys = refl
repeated_moved x (z ∷ xs) ys =
    rw (among_moved x z xs ys, repeated_moved x xs ys, same_turned z x)
    (mix (same_bytes x z) (among z (xs ++ ys)) (among x (xs ++ ys)) (repeated (xs ++ ys)))
  where
    mix : (a b c d : Bool) → ((a || b) || (c || d)) ≡ ((a || c) || (b || d))
    mix true b c d = refl
    mix false true c d = sym (or-true c)
    mix false false c d = refl

-- among some or among others
pub among_more : (p : List ℕ) (done more : List (List ℕ)) → among p (done ++ more) ≡ (among p done || among p more)
unfolding among
among_more p [] more = refl
among_more p (q ∷ done) more = ap (λ (b : Bool). same_bytes p q || b) (among_more p done more) ∙ sym (group (same_bytes p q) (among p done) (among p more))
  where
    group : (a b c : Bool) → ((a || b) || c) ≡ (a || (b || c))
    group true b c = refl
    group false b c = refl

-- a new one at the end repeats none
pub still_single : (done : List (List ℕ)) (p : List ℕ) → repeated done ≡ false → among p done ≡ false → repeated (done ++ (p ∷ [])) ≡ false
unfolding repeated
still_single done p single new = repeated_moved p done [] ∙ ap₂ ◌||◌ (ap (among p) (append-nil done) ∙ new) (ap repeated (append-nil done) ∙ single)

-- one that stands above already is a repeat
pub now_repeated : (done : List (List ℕ)) (p : List ℕ) (more : List (List ℕ)) → among p done ≡ true → repeated (done ++ (p ∷ more)) ≡ true
unfolding repeated
now_repeated done p more old =
    repeated_moved p done more
    ∙ ap (λ (b : Bool). b || repeated (done ++ more)) (among_more p done more ∙ ap (λ (b : Bool). b || among p more) old)

-- a repeat among the first is a repeat
pub repeated_start : (some more : List (List ℕ)) → repeated some ≡ true → repeated (some ++ more) ≡ true
unfolding repeated
repeated_start [] more twice = absurd (false≢true twice)
repeated_start (s ∷ some) more twice = rw (among_more s some more) (go (among s some) refl (repeated_start some more))
  where
    go : (a : Bool) → among s some ≡ a → (repeated some ≡ true → repeated (some ++ more) ≡ true) → ((a || among s more) || repeated (some ++ more)) ≡ true
    go true e below = refl
    go false e below = rw (below (sym (ap (λ (b : Bool). b || repeated some) e) ∙ twice)) (or-true (among s more))
