-- A line made of a word and fields after tabs is split into them.
use Rattle.std.specs.Prelude.{ℕ, Bool, true, false, cond, List, [], ◌∷◌, ◌++◌, ◌≡◌, eqb}
use Rattle.std.proofs.Common.{sym, ap, ◌∙◌}
use Rattle.text.specs.Forms.{every}
use Rattle.text.specs.Pieces.{split, onto}
use Rattle.text.specs.PieceLaws.{split_piece}
use Rattle.showing.specs.Fields.{field}
use Rattle.rereading.specs.Cuts.{free, cut_last, free_join}

-- one more field is one more piece
pub one_more : (s text : List ℕ) → free 9 text ≡ true → split 9 (s ++ field text) ≡ split 9 s ++ (text ∷ [])
unfolding split onto field
one_more [] text none = ap (λ (l : List (List ℕ)). [] ∷ l) (cut_last 9 text none)
one_more (byte ∷ s) text none = go (eqb byte 9) (one_more s text none) (split_piece 9 s)
  where
    go : (b : Bool) → split 9 (s ++ field text) ≡ split 9 s ++ (text ∷ []) → (first : List ℕ) × (more : List (List ℕ)) × (split 9 s ≡ first ∷ more)
        → cond b ([] ∷ split 9 (s ++ field text)) (onto byte (split 9 (s ++ field text))) ≡ cond b ([] ∷ split 9 s) (onto byte (split 9 s)) ++ (text ∷ [])
    go true below piece = ap (λ (l : List (List ℕ)). [] ∷ l) below
    go false below piece =
        ap (onto byte) (below ∙ ap (λ (l : List (List ℕ)). l ++ (text ∷ [])) piece.2) ∙ ap (λ (l : List (List ℕ)). onto byte l ++ (text ∷ [])) (sym piece.2)

-- and keeps a line one line
pub free_more : (s text : List ℕ) → free 10 s ≡ true → free 10 text ≡ true → free 10 (s ++ field text) ≡ true
unfolding field free every
free_more s text first second = free_join 10 s (field text) first second

-- ---- a word and its fields

module _ {word : List ℕ} (plain : split 9 word ≡ word ∷ []) {a : List ℕ} (free-a : free 9 a ≡ true) where
  pub two_pieces : split 9 (word ++ field a) ≡ word ∷ a ∷ []
  two_pieces = one_more word a free-a ∙ ap (λ (l : List (List ℕ)). l ++ (a ∷ [])) plain

  module _ {b : List ℕ} (free-b : free 9 b ≡ true) where
    pub three_pieces : split 9 (word ++ field a ++ field b) ≡ word ∷ a ∷ b ∷ []
    three_pieces = one_more (word ++ field a) b free-b ∙ ap (λ (l : List (List ℕ)). l ++ (b ∷ [])) two_pieces

    pub five_pieces : {c d : List ℕ} → free 9 c ≡ true → free 9 d ≡ true → split 9 (word ++ field a ++ field b ++ field c ++ field d) ≡ word ∷ a ∷ b ∷ c ∷ d ∷ []
    five_pieces {c} {d} free-c free_d =
        one_more (word ++ field a ++ field b ++ field c) d free_d
        ∙ ap (λ (l : List (List ℕ)). l ++ (d ∷ [])) (one_more (word ++ field a ++ field b) c free-c ∙ ap (λ (l : List (List ℕ)). l ++ (c ∷ [])) three_pieces)
