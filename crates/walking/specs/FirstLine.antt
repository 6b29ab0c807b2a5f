-- A text begins with its header, the first line with its LF, or is refused at line 1: for any judge of lines.
use Rattle.std.specs.Prelude.{ℕ, ◌≤◌, Bool, true, false, cond, ◌≡◌, eqb, length}
use Rattle.std.proofs.Math.Bool.{true≢false}
use mathlib.Core.List.{List, [], ◌∷◌, ◌++◌, append_assoc}
use Rattle.std.proofs.Math.Path.{refl, sym, ap}
use Rattle.std.proofs.Common.{ap₂, ◌∙◌, eqb-true}
use Rattle.text.specs.Pieces.{split, onto}
use Rattle.text.specs.PieceLaws.{split_piece}
use Rattle.text.specs.Begins.{begins, begins-onward}
use Rattle.walking.specs.Texts.{Judged, bad, refused, onward, read_lines, read_text}
use Rattle.walking.specs.TextLaws.{text_fits}

-- the first of several pieces, then the separator and the bytes of the others
pub first_piece : (mark : ℕ) (s : List ℕ) {a b : List ℕ} {more : List (List ℕ)} → split mark s ≡ a ∷ b ∷ more → (rest : List ℕ) × (s ≡ a ++ (mark ∷ rest)) × (split mark rest ≡ b ∷ more)
unfolding split onto
first_piece mark [] e = absurd (true≢false (cc))
first_piece mark (byte ∷ s) {a} {b} {more} e = go (eqb byte mark) refl e (split_piece mark s) (λ p one. first_piece mark s one)
  where
    go : (t : Bool) → eqb byte mark ≡ t → cond t ([] ∷ split mark s) (onto byte (split mark s)) ≡ a ∷ b ∷ more
        → (first : List ℕ) × (others : List (List ℕ)) × (split mark s ≡ first ∷ others)
        → ((p : List ℕ) → split mark s ≡ p ∷ b ∷ more → (rest : List ℕ) × (s ≡ p ++ (mark ∷ rest)) × (split mark rest ≡ b ∷ more))
        → (rest : List ℕ) × (byte ∷ s ≡ a ++ (mark ∷ rest)) × (split mark rest ≡ b ∷ more)
    go true is cut piece below =
        let none : a ≡ [] = cc in
        (s, ap₂ (λ (x : ℕ) (l : List ℕ). l ++ (x ∷ s)) (eqb-true byte mark is) (sym none), cc)
    go false is cut (p, others, pieces) below =
        let one : (byte ∷ p) ∷ others ≡ a ∷ b ∷ more = sym (ap (onto byte) pieces) ∙ cut in
        let left = below p (pieces ∙ ap (λ (l : List (List ℕ)). p ∷ l) (cc)) in
        let first : byte ∷ p ≡ a = cc in
        (left.0, ap (λ (l : List ℕ). byte ∷ l) left.1 ∙ ap (λ (l : List ℕ). l ++ (mark ∷ left.0)) first, left.2)

module _ {S : Type 0} (judge : S → List ℕ → Judged S) (malformed long : ℕ) (start : S) where
  -- Where any other first line is malformed, a text that does not begin with the line and its LF is malformed at line 1.
  pub not_begun : (line : List ℕ) → ((other : List ℕ) → (other ≡ line → ⊥) → judge start other ≡ bad malformed) → (text : List ℕ) → length text ≤ 32768 → begins (line ++ (10 ∷ [])) text ≡ false
      → read_text judge malformed long start text ≡ refused malformed 1
  unfolding read_lines onward
  not_begun line malforms text short none = text_fits judge malformed long start text short ∙ go (split 10 text) refl
    where
      differs : {first next : List ℕ} {more : List (List ℕ)} → split 10 text ≡ first ∷ next ∷ more → first ≡ line → ⊥
      differs {first} cut is =
          let (rest, whole, left) = first_piece 10 text cut in
          true≢false (sym (ap (begins (line ++ (10 ∷ []))) (whole ∙ ap (λ (l : List ℕ). l ++ (10 ∷ rest)) is ∙ sym (append_assoc line (10 ∷ []) rest)) ∙ begins-onward (line ++ (10 ∷ [])) rest) ∙ none)

      go : (pieces : List (List ℕ)) → split 10 text ≡ pieces → read_lines judge malformed start 1 pieces ≡ refused malformed 1
      go [] cut = refl
      go (tail ∷ []) cut = refl
      go (first ∷ next ∷ more) cut =
          ap (λ (j : Judged S). onward judge malformed j start 1 (next ∷ more) (λ t. read_lines judge malformed t 2 (next ∷ more))) (malforms first (differs cut))
