-- The fields of a line, from the places of its first tabs.
use Rattle.std.specs.Prelude.{ℕ, ◌+◌, ◌≤◌, ◌<◌, List, [], ◌∷◌, ◌≡◌, length, drop}
use Rattle.std.proofs.Common.{ap, ◌∙◌, arith}
use Rattle.text.specs.Pieces.{split, Sought, part}
use Rattle.text.specs.PieceLaws.{split_piece, Passed, passed_none, passed_next, passed_last}

module _ {line : List ℕ} {a : ℕ} (first : Sought line 0 9 a) where
  pub one_field_lem : a ≡ length line → split 9 line ≡ part line 0 a ∷ []
  one_field_lem last = passed_last 9 line [] 0 a (passed_none 9 line) first last

  module _ (some : a ≡ length line → ⊥) {b : ℕ} (second : Sought line (a + 1) 9 b) where
    one : Passed 9 line (part line 0 a ∷ []) (a + 1)
    one = passed_next 9 line [] 0 a (passed_none 9 line) first (omega (arith, first.within, some))

    pub two_fields_lem : b ≡ length line → split 9 line ≡ part line 0 a ∷ part line (a + 1) b ∷ []
    two_fields_lem last = passed_last 9 line _ (a + 1) b one second last

    module _ (more : b ≡ length line → ⊥) {d : ℕ} (third : Sought line (b + 1) 9 d) where
      two : Passed 9 line (part line 0 a ∷ part line (a + 1) b ∷ []) (b + 1)
      two = passed_next 9 line _ (a + 1) b one second (omega (arith, second.within, more))

      pub three_fields_lem : d ≡ length line → split 9 line ≡ part line 0 a ∷ part line (a + 1) b ∷ part line (b + 1) d ∷ []
      three_fields_lem last = passed_last 9 line _ (b + 1) d two third last

      module _ (still : d ≡ length line → ⊥) {e : ℕ} (fourth : Sought line (d + 1) 9 e) where
        three : Passed 9 line (part line 0 a ∷ part line (a + 1) b ∷ part line (b + 1) d ∷ []) (d + 1)
        three = passed_next 9 line _ (b + 1) d two third (omega (arith, third.within, still))

        pub four_fields_lem : length line ≤ e → split 9 line ≡ part line 0 a ∷ part line (a + 1) b ∷ part line (b + 1) d ∷ part line (d + 1) e ∷ []
        four_fields_lem last = passed_last 9 line _ (d + 1) e three fourth (omega (arith, fourth.within, last))

        pub more_fields : e < length line
            → (field : List ℕ) × (rest : List (List ℕ)) × (split 9 line ≡ part line 0 a ∷ part line (a + 1) b ∷ part line (b + 1) d ∷ part line (d + 1) e ∷ field ∷ rest)
        more_fields here =
            let left = split_piece 9 (drop (e + 1) line) in
            (left.0, left.1, (passed_next 9 line _ (d + 1) e three fourth here).pieces ∙ ap (λ (l : List (List ℕ)). part line 0 a ∷ part line (a + 1) b ∷ part line (b + 1) d ∷ part line (d + 1) e ∷ l) left.2)

        module _ (yet : e ≡ length line → ⊥) {f : ℕ} (fifth : Sought line (e + 1) 9 f) where
          four : Passed 9 line (part line 0 a ∷ part line (a + 1) b ∷ part line (b + 1) d ∷ part line (d + 1) e ∷ []) (e + 1)
          four = passed_next 9 line _ (d + 1) e three fourth (omega (arith, fourth.within, yet))

          pub five_fields_lem : length line ≤ f → split 9 line ≡ part line 0 a ∷ part line (a + 1) b ∷ part line (b + 1) d ∷ part line (d + 1) e ∷ part line (e + 1) f ∷ []
          five_fields_lem last = passed_last 9 line _ (e + 1) f four fifth (omega (arith, fifth.within, last))

          pub beyond_five : f < length line → split 9 line ≡ part line 0 a ∷ part line (a + 1) b ∷ part line (b + 1) d ∷ part line (d + 1) e ∷ part line (e + 1) f ∷ split 9 (drop (f + 1) line)
          beyond_five here = (passed_next 9 line _ (e + 1) f four fifth here).pieces
