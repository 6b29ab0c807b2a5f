-- The sum is the same in either order and grouping, and adding a typing to itself changes nothing: of the arrays, of the bytes written, and over the texts.
use Rattle.std.specs.Prelude.{ℕ, ◌||◌, ◌⊎◌, ◌≡◌}
use Rattle.std.proofs.Math.Bool.{or_comm, or_assoc, or_self}
use Rattle.std.proofs.Common.{true≢false, inl, inr, sym, ap, ◌∙◌}
use mathlib.Core.List.{List, [], ◌∷◌}
use Rattle.std.proofs.Math.Path.{refl, ap₂}
use Rattle.roles.specs.Sets.{union_of}
use Rattle.roles.specs.MemberLaws.{union_comm, union_assoc, union_self}
use Rattle.model.specs.declared.Typing.{Typing as Table}
use Rattle.tables.specs.declared.Name.{Name}
use Rattle.walking.specs.Texts.{read}
use Rattle.reading.specs.Policy.{Said, read_policy}
use Rattle.typings.specs.TypingText.{Typed, read_typing, table_of}
use Rattle.spelling.specs.TypingText.{typing_text}
use Rattle.rereading.specs.Fits.{fits_read}
use Rattle.summing.specs.Sums.{paired, sum_of, sum_typed}
use Rattle.summing.specs.Outcome.{leaves, writes}
use Rattle.summing.specs.Sum.{SumAnswer, sum_written, sum_outcome}
use Rattle.composing.specs.SumRules.{sum_text, TextFits}
use Rattle.composing.specs.Outcomes.{decided, taken, left, fits_exact}
use Rattle.composing.specs.SumExact.{after_second}
use Rattle.composing.specs.Summed.{sum_laid}
use Rattle.composing.specs.ReadBack.{text_back}

-- ---- two lists, element by element

module _ {A : Type 0} (f : A → A → A) where
  -- what holds of two elements, of three, and of one with itself, holds of the lists
  paired_commutes : ((x y : A) → f x y ≡ f y x) → (xs ys : List A) → paired f xs ys ≡ paired f ys xs
  unfolding paired
  paired_commutes commutes [] [] = refl
  paired_commutes commutes [] (y ∷ ys) = refl
  paired_commutes commutes (x ∷ xs) [] = refl
  paired_commutes commutes (x ∷ xs) (y ∷ ys) = ap₂ ◌∷◌ (commutes x y) (paired_commutes commutes xs ys)

  paired_groups : ((x y z : A) → f (f x y) z ≡ f x (f y z)) → (xs ys zs : List A) → paired f (paired f xs ys) zs ≡ paired f xs (paired f ys zs)
  unfolding paired
  paired_groups groups [] ys zs = refl
  paired_groups groups (x ∷ xs) [] zs = refl
  paired_groups groups (x ∷ xs) (y ∷ ys) [] = refl
  paired_groups groups (x ∷ xs) (y ∷ ys) (z ∷ zs) = ap₂ ◌∷◌ (groups x y z) (paired_groups groups xs ys zs)

  paired_repeats : ((x : A) → f x x ≡ x) → (xs : List A) → paired f xs xs ≡ xs
  unfolding paired
  paired_repeats repeats [] = refl
  paired_repeats repeats (x ∷ xs) = ap₂ ◌∷◌ (repeats x) (paired_repeats repeats xs)

-- ---- the arrays

-- In either order, in either grouping, and of a typing with itself.
pub table_commutes : (t u : Table) → sum_of t u ≡ sum_of u t
unfolding sum_of
table_commutes t u = λ i. record {
  labels = paired_commutes ◌||◌ or_comm t.labels u.labels i;
  plus = paired_commutes union_of union_comm t.plus u.plus i;
  minus = paired_commutes union_of union_comm t.minus u.minus i;
}

pub table_groups : (t u v : Table) → sum_of (sum_of t u) v ≡ sum_of t (sum_of u v)
unfolding sum_of
table_groups t u v = λ i. record {
  labels = paired_groups ◌||◌ or_assoc t.labels u.labels v.labels i;
  plus = paired_groups union_of union_assoc t.plus u.plus v.plus i;
  minus = paired_groups union_of union_assoc t.minus u.minus v.minus i;
}

pub table_repeats : (t : Table) → sum_of t t ≡ t
unfolding sum_of
table_repeats t = λ i. record {
  labels = paired_repeats ◌||◌ or_self t.labels i;
  plus = paired_repeats union_of union_self t.plus i;
  minus = paired_repeats union_of union_self t.minus i;
}

-- ---- the bytes written

module _ (names : List Name) where
  -- They are the same wherever the arrays are.
  pub bytes_commute : (t u : Table) → typing_text names (sum_of t u) ≡ typing_text names (sum_of u t)
  bytes_commute t u = ap (typing_text names) (table_commutes t u)

  pub bytes_group : (t u v : Table) → typing_text names (sum_of (sum_of t u) v) ≡ typing_text names (sum_of t (sum_of u v))
  bytes_group t u v = ap (typing_text names) (table_groups t u v)

  pub bytes_repeat : (t : Table) → typing_text names (sum_of t t) ≡ typing_text names t
  bytes_repeat t = ap (typing_text names) (table_repeats t)

-- ---- over the texts

module _ (policy : List ℕ) {s : Said} (reads : read_policy policy ≡ read s) where
  -- Two typings that are read over the policy are summed alike in either order: the answer, and what is written.
  pub sum_commutes : (first second : List ℕ) (room : ℕ) {t u : Typed} → read_typing s.roles first ≡ read t → read_typing s.roles second ≡ read u → sum_outcome policy first second room ≡ sum_outcome policy second first room
  sum_commutes first second room {t} {u} one two =
      after_second policy first second room reads one two ∙ ap (sum_written room s.roles) (table_commutes (table_of t) (table_of u)) ∙ sym (after_second policy second first room reads two one)

  -- A typing summed with itself is written as it is.
  pub sum_repeats : (first : List ℕ) (room : ℕ) {t : Typed} → read_typing s.roles first ≡ read t → sum_outcome policy first first room ≡ sum_written room s.roles (table_of t)
  sum_repeats first room {t} one = after_second policy first first room reads one one ∙ ap (sum_written room s.roles) (table_repeats (table_of t))

  -- a text that sum has written reads back as the sum
  written_back : (first second : List ℕ) (room : ℕ) {t u : Typed} {answer : SumAnswer} {text : List ℕ} → read_typing s.roles first ≡ read t → read_typing s.roles second ≡ read u
      → sum_outcome policy first second room ≡ writes answer text → read_typing s.roles text ≡ read (sum_typed t u)
  unfolding sum_written sum_text
  written_back first second room {t} {u} {answer} {text} one two is = go (decided (fits_exact room (sum_text s t u))) (sym (after_second policy first second room reads one two) ∙ is)
    where
      written : {A : SumAnswer} → writes A (sum_text s t u) ≡ writes answer text → sum_text s t u ≡ text
      written same = cc

      none : {A : SumAnswer} → leaves A ≡ writes answer text → ⊥
      none same = true≢false (cc)

      go : TextFits room (sum_text s t u) ⊎ (TextFits room (sum_text s t u) → ⊥) → sum_written room s.roles (sum_of (table_of t) (table_of u)) ≡ writes answer text → read_typing s.roles text ≡ read (sum_typed t u)
      go (inl fit) same =
          ap (read_typing s.roles) (sym (written (sym (taken (fits_exact room (sum_text s t u)) _ _ fit) ∙ same)))
          ∙ text_back policy reads (fits_read s.roles first one) (fits_read s.roles second two) fit
      go (inr long) same = absurd (none (sym (left (fits_exact room (sum_text s t u)) _ _ long) ∙ same))

  module _ (first second third : List ℕ) {t u v : Typed} (one : read_typing s.roles first ≡ read t) (two : read_typing s.roles second ≡ read u) (three : read_typing s.roles third ≡ read v) where
    -- Three typings that are read over the policy: what is written of the first two, summed with the third, is the first summed with what is written of the other two.
    pub sum_groups : (m n room : ℕ) {one-two two-three : List ℕ} {a b : SumAnswer} → sum_outcome policy first second m ≡ writes a one-two → sum_outcome policy second third n ≡ writes b two-three
        → sum_outcome policy one-two third room ≡ sum_outcome policy first two-three room
    sum_groups m n room {one-two} {two-three} wrote wrote' =
        let laid-left = sum_laid (fits_read s.roles first one) (fits_read s.roles second two) in
        let laid-right = sum_laid (fits_read s.roles second two) (fits_read s.roles third three) in
        after_second policy one-two third room reads (written_back first second m one two wrote) three
        ∙ ap (sum_written room s.roles) (ap (λ (x : Table). sum_of x (table_of v)) laid-left ∙ table_groups (table_of t) (table_of u) (table_of v) ∙ sym (ap (sum_of (table_of t)) laid-right))
        ∙ sym (after_second policy first two-three room reads one (written_back second third n two three wrote'))

  -- What sum has written, summed with itself, is written again as it is.
  pub written_repeats : (first second : List ℕ) (room : ℕ) {t u : Typed} {answer : SumAnswer} {text : List ℕ} → read_typing s.roles first ≡ read t → read_typing s.roles second ≡ read u
      → sum_outcome policy first second room ≡ writes answer text → sum_outcome policy text text room ≡ writes answer text
  written_repeats first second room {text = text} one two is =
      sum_repeats text room (written_back first second room one two is) ∙ ap (sum_written room s.roles) (sum_laid (fits_read s.roles first one) (fits_read s.roles second two))
      ∙ sym (after_second policy first second room reads one two) ∙ is
