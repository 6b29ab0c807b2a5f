-- One element more: of elements in some order, and of elements that are alike in turn.
use Rattle.std.specs.Prelude.{List, [], ◌∷◌, ◌++◌, ◌≡◌, refl}
use Rattle.reordering.specs.Alike.{Inserted, Reordered, Each}

module _ {A : Type 0} where
  -- ---- in some order

  -- two elements put in one after the other can be put in the other way round
  record Turned (x y : A) (xs zs : List A) : Type 0 where
    between : List A
    earlier : Inserted y xs between
    later : Inserted x between zs

  turned : {x y : A} {xs ys zs : List A} → Inserted x xs ys → Inserted y ys zs → Turned x y xs zs
  turned {x} {y} {xs} {ys} i Inserted.here = record { between = y ∷ xs; earlier = Inserted.here; later = Inserted.there i }
  turned Inserted.here (Inserted.there {more = zs} j) = record { between = zs; earlier = j; later = Inserted.here }
  turned {x = x} {y = y} (Inserted.there {y = z} {xs = xs} i) (Inserted.there j) =
      let t = turned {xs = xs} i j in
      record { between = z ∷ t.between; earlier = Inserted.there t.earlier; later = Inserted.there t.later }

  -- one more at the end of some, and anywhere among the others
  pub put_last : {x : A} {xs ys zs : List A} → Reordered xs ys → Inserted x ys zs → Reordered (xs ++ (x ∷ [])) zs
  put_last Reordered.none j = Reordered.put Reordered.none j
  put_last (Reordered.put r i) j =
      let t = turned i j in
      Reordered.put (put_last r t.earlier) t.later

  -- an element put into the second of two lists that are joined
  pub into_second : {x : A} (xs : List A) {ys zs : List A} → Inserted x ys zs → Inserted x (xs ++ ys) (xs ++ zs)
  into_second [] i = i
  into_second (y ∷ xs) i = Inserted.there (into_second xs i)

  -- ---- alike in turn

  module _ {Like : A → A → Type 0} where
    -- one like one
    pub each_one : {x y : A} → Like x y → Each Like (x ∷ []) (y ∷ [])
    each_one one = Each.more one Each.none

    -- none like none
    pub each_none : {xs : List A} → Each Like xs [] → xs ≡ []
    each_none Each.none = refl
