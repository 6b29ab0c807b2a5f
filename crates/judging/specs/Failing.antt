-- The first that fails: what its number says, and that 0 says that all pass.
use Prim.Native.Nat.{ℕ, suc, ◌+◌}
use Rattle.std.specs.Prelude.{Bool, not, ◌↔◌, ◌≡◌, length}
use Rattle.std.proofs.Math.Bool.{true, false, false≢true}
use mathlib.Core.List.Memᴰ
use mathlib.Core.List.Memᴰ.{head as here}
use mathlib.Core.List.Memᴰ.{tail as later}
use mathlib.Core.List.{List, [], ◌∷◌, ◌++◌, Memᴰ as Listed}
use Rattle.std.proofs.Common.{⊎_elim, ap, ◌∙◌, arith}
use Rattle.std.proofs.Math.Path.{refl, sym, subst⁻¹}
use Rattle.steps.specs.First.{first_from, first}
use Rattle.judging.specs.Verdict.{first_failing}
use Rattle.judging.specs.Failures.{FailsAt}

-- What is good by one reading is good by another.
pub first_bad_by : {A : Type 0} {Good Fine : A → Type 0} {xs : List A} {number : ℕ} → ((x : A) → Listed x xs → Good x ↔ Fine x) → FailsAt Good xs number → FailsAt Fine xs number
first_bad_by {A} {Good} {Fine} {xs} same f = record {
  before = f.before;
  element = f.element;
  after = f.after;
  listed = f.listed;
  numbered = f.numbered;
  good = λ x m. (same x (listed x (Memᴰ.append_left (f.element ∷ f.after) m))).0 (f.good x m);
  bad = λ fine. f.bad ((same f.element (listed f.element (Memᴰ.append_right f.before (here refl)))).1 fine);
}
  where
    listed : (x : A) → Listed x (f.before ++ f.element ∷ f.after) → Listed x xs
    listed x = subst⁻¹ (Listed x) f.listed

module _ {A : Type 0} (test : A → Bool) where
  -- the number of the first that fails, where so many stand before the list
  abbrev fail_from : ℕ → List A → ℕ
  fail_from = first_from (λ x. not (test x))

  -- the list's first element passes, or fails
  from_passes : (before : ℕ) (x : A) (xs : List A) → test x ≡ true → fail_from before (x ∷ xs) ≡ fail_from (suc before) xs
  unfolding first_from
  from_passes before x xs e = rw e

  from_fails : (before : ℕ) (x : A) (xs : List A) → test x ≡ false → fail_from before (x ∷ xs) ≡ suc before
  unfolding first_from
  from_fails before x xs e = rw e

  -- ---- no element fails

  none_each : (number : ℕ) (xs : List A) → fail_from number xs ≡ 0 → (x : A) → Listed x xs → test x ≡ true
  none_each number [] none x m = absurd (Memᴰ.not-nil m)
  none_each number (y ∷ ys) none x m = go (test y) refl (none_each (suc number) ys)
    where
      go : (b : Bool) → test y ≡ b → (fail_from (suc number) ys ≡ 0 → (z : A) → Listed z ys → test z ≡ true) → test x ≡ true
      go true e rest = ⊎_elim (λ same. ap test same ∙ e) (rest (sym (from_passes number y ys e) ∙ none) x) (Memᴰ.cases_cons m)
      go false e rest = absurd (omega (arith, sym (from_fails number y ys e) ∙ none))

  each_none : (number : ℕ) (xs : List A) → ((x : A) → Listed x xs → test x ≡ true) → fail_from number xs ≡ 0
  unfolding first_from
  each_none number [] each = refl
  each_none number (y ∷ ys) each = from_passes number y ys (each y (here refl)) ∙ each_none (suc number) ys (λ x m. each x (later m))

  -- The answer is 0 exactly when every element passes.
  pub none_failing : (xs : List A) → first_failing test xs ≡ 0 ↔ ((x : A) → Listed x xs → test x ≡ true)
  unfolding first_failing first
  none_failing xs = (none_each 0 xs, each_none 0 xs)

  -- ---- the first that fails

  abbrev Passes : A → Type 0
  Passes x = test x ≡ true

  -- one element more before it
  one_before : {y : A} {ys : List A} {number : ℕ} → test y ≡ true → FailsAt Passes ys number → FailsAt Passes (y ∷ ys) (suc number)
  one_before {y} {ys} passes f = record {
    before = y ∷ f.before;
    element = f.element;
    after = f.after;
    listed = ap (λ (l : List A). y ∷ l) f.listed;
    numbered = omega (arith, f.numbered);
    good = λ x m. ⊎_elim (λ same. ap test same ∙ passes) (f.good x) (Memᴰ.cases_cons m);
    bad = f.bad;
  }

  some_first : (start number : ℕ) (xs : List A) → fail_from start xs ≡ suc number → (n : ℕ) × (number ≡ start + n) × FailsAt Passes xs (suc n)
  unfolding first_from
  some_first start number [] some = absurd (omega (arith, some))
  some_first start number (y ∷ ys) some = go (test y) refl (some_first (suc start) number ys)
    where
      go : (b : Bool) → test y ≡ b → (fail_from (suc start) ys ≡ suc number → (n : ℕ) × (number ≡ suc start + n) × FailsAt Passes ys (suc n)) → (n : ℕ) × (number ≡ start + n) × FailsAt Passes (y ∷ ys) (suc n)
      go true e rest =
          let (n, far, found) = rest (sym (from_passes start y ys e) ∙ some) in
          (suc n, omega (arith, far), one_before e found)
      go false e rest = (
        0,
        omega (arith, sym (from_fails start y ys e) ∙ some),
        record { before = []; element = y; after = ys; listed = refl; numbered = refl; good = λ x m. absurd (Memᴰ.not-nil m); bad = λ passes. false≢true (sym e ∙ passes) },
      )

  first_some : (start : ℕ) (before : List A) (element : A) (after : List A) → ((x : A) → Listed x before → test x ≡ true) → test element ≡ false → fail_from start (before ++ element ∷ after) ≡ length before + suc start
  first_some start [] element after good bad = from_fails start element after bad ∙ omega arith
  first_some start (y ∷ ys) element after good bad =
      from_passes start y (ys ++ element ∷ after) (good y (here refl)) ∙ first_some (suc start) ys element after (λ x m. good x (later m)) bad ∙ omega arith

  -- The answer is a number above 0 exactly when the element of that number fails and those before it pass.
  pub first_failing_lem : (number : ℕ) (xs : List A) → first_failing test xs ≡ suc number ↔ FailsAt (λ x. test x ≡ true) xs (suc number)
  unfolding first_failing first
  first_failing_lem number xs = (told, found)
    where
      told : fail_from 0 xs ≡ suc number → FailsAt Passes xs (suc number)
      told some =
          let (n, same, f) = some_first 0 number xs some in
          subst⁻¹ (λ (k : ℕ). FailsAt Passes xs (suc k)) (same ∙ omega arith) f

      failed : (b : Bool) → (b ≡ true → ⊥) → b ≡ false
      failed true none = absurd (none refl)
      failed false none = refl

      found : FailsAt Passes xs (suc number) → fail_from 0 xs ≡ suc number
      found f = ap (fail_from 0) f.listed ∙ first_some 0 f.before f.element f.after f.good (failed (test f.element) f.bad) ∙ sym f.numbered
