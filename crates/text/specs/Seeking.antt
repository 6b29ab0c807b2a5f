-- What is sought from a place on, by the place of the first mark among the bytes that are left.
use Rattle.std.specs.Prelude.{ℕ, ◌+◌, ◌-◌, ◌≤◌, Bool, true, false, cond, not, List, [], ◌∷◌, ◌≡◌, refl, eqb, ltb, length, take, drop, Some, None}
use Rattle.std.specs.List.{position, position_or_len}
use Rattle.std.proofs.Common.{length-drop, arith}
use Rattle.std.proofs.lemmas.Bool.{ltb-true, ltb-false}
use Rattle.text.specs.Index.{index_of, index_after}
use Rattle.text.specs.Pieces.{Sought}
use Rattle.text.specs.PieceLaws.{part_rest}

-- the number of bytes before the first mark, as the library has it
index_position : (mark : ℕ) (s : List ℕ) → index_of mark s ≡ position_or_len (λ byte. eqb byte mark) s
unfolding index_of index_after
index_position mark [] = refl
index_position mark (byte ∷ rest) = go (eqb byte mark) (index_position mark rest)
  where
    go : (b : Bool) → index_of mark rest ≡ position_or_len (λ byte. eqb byte mark) rest → index_after b (index_of mark rest) ≡ cond (not b) (1 + position_or_len (λ byte. eqb byte mark) rest) 0
    go true below = refl
    go false below = omega (arith, below)

index_most : (mark : ℕ) (s : List ℕ) → index_of mark s ≤ length s
unfolding index_of index_after
index_most mark [] = omega arith
index_most mark (byte ∷ rest) = go (eqb byte mark) (index_most mark rest)
  where
    go : (b : Bool) → index_of mark rest ≤ length rest → index_after b (index_of mark rest) ≤ length (byte ∷ rest)
    go true below = omega arith
    go false below = omega arith

-- the mark stands among the bytes that are left, or there is none
pub sought_there : (s : List ℕ) (at mark : ℕ) {place : ℕ} → at ≤ length s → Some place ≡ position (λ byte. eqb byte mark) (take (length s - at) (drop at s)) → Sought s at mark (at + place)
sought_there s at mark {place} inside found = go (ltb (position_or_len (λ byte. eqb byte mark) (drop at s)) (length (drop at s))) refl (rw part_rest at found)
  where
    go : (b : Bool) → ltb (position_or_len (λ byte. eqb byte mark) (drop at s)) (length (drop at s)) ≡ b → Some place ≡ cond b (Some (position_or_len (λ byte. eqb byte mark) (drop at s))) None
        → Sought s at mark (at + place)
    go true is same =
        let there : place ≡ position_or_len (λ byte. eqb byte mark) (drop at s) = cc in
        record {
          first = omega (arith, there, index_position mark (drop at s));
          within = omega (arith, there, ltb-true _ _ is, length-drop at s);
        }
    go false is same = absurd (cc)

pub sought_end : (s : List ℕ) (at mark : ℕ) → at ≤ length s → None ≡ position (λ byte. eqb byte mark) (take (length s - at) (drop at s)) → Sought s at mark (length s)
sought_end s at mark inside none = go (ltb (position_or_len (λ byte. eqb byte mark) (drop at s)) (length (drop at s))) refl (rw part_rest at none)
  where
    go : (b : Bool) → ltb (position_or_len (λ byte. eqb byte mark) (drop at s)) (length (drop at s)) ≡ b → None ≡ cond b (Some (position_or_len (λ byte. eqb byte mark) (drop at s))) None
        → Sought s at mark (length s)
    go true is same = absurd (cc)
    go false is same =
        record {
          first = omega (arith, ltb-false _ _ is, index_position mark (drop at s), index_most mark (drop at s), length-drop at s);
          within = omega arith;
        }
