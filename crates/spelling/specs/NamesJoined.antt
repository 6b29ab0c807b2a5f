-- A set field is its names joined.
use Rattle.std.specs.Prelude.{ℕ, Bool, true, false, cond, List, [], ◌∷◌, ◌++◌, ◌≡◌, refl}
use Rattle.std.proofs.Common.{append_assoc, sym, ap, ◌∙◌}
use Rattle.text.specs.Forms.{bytes, names_of}
use Rattle.text.specs.Pieces.{split, parted, same_bytes}
use Rattle.text.specs.PieceLaws.{same_equal, split_piece, split-parted}
use Rattle.spelling.specs.TypingText.{joined_after, joined}

-- names joined by commas are parted by them
joined-parted : (name : List ℕ) (more : List (List ℕ)) → joined_after name more ≡ parted 44 (name ∷ more)
unfolding joined_after parted
joined-parted name [] = refl
joined-parted name (next ∷ more) = append_assoc name (bytes ",") (joined_after next more) ∙ ap (λ (l : List ℕ). name ++ (44 ∷ l)) (joined-parted next more)

pub names-joined : (field : List ℕ) → field ≡ joined (names_of field)
unfolding names_of joined
names-joined field = go (same_bytes field (bytes "-")) refl (split_piece 44 field)
  where
    go : (b : Bool) → same_bytes field (bytes "-") ≡ b → (name : List ℕ) × (more : List (List ℕ)) × (split 44 field ≡ name ∷ more) → field ≡ joined (cond b [] (split 44 field))
    go true same some = same_equal field (bytes "-") same
    go false same (name, more, pieces) = split-parted 44 field ∙ ap (parted 44) pieces ∙ sym (joined-parted name more) ∙ ap joined (sym pieces)
