-- What a line of `sum` or `merge` speaks of, as a field.
use Rattle.std.specs.Prelude.{ℕ, zero, suc, List, [], ◌∷◌, ◌++◌, slice_get, option_map, unwrap_or}
use Rattle.text.specs.Forms.{bytes}
use Rattle.showing.specs.Fields.{field}
use Rattle.wording.specs.declared.Mention.{Mention}

-- One of some words as a field, by its number from 1; no field for another number.
unfoldable pub nth_field : (which : ℕ) → (words : List (List ℕ)) → List ℕ
nth_field zero words = []
nth_field (suc place) words = unwrap_or (option_map field (slice_get words place)) []

-- The texts in the order in which they are read, and the four judgings: a typing, and the policy or the rules that it is judged on.
unfoldable pub mention_words : Mention → List (List ℕ)
mention_words Mention.SumText = bytes "policy" ∷ bytes "typing_1" ∷ bytes "typing_2" ∷ [] ∷ []
mention_words Mention.MergeText = bytes "policy_1" ∷ bytes "typing_1" ∷ bytes "policy_2" ∷ bytes "typing_2" ∷ []
mention_words Mention.Judging =
    (bytes "typing_1" ++ field (bytes "policy_1")) ∷ (bytes "typing_2" ++ field (bytes "policy_2")) ∷ (bytes "typing_1" ++ field (bytes "rules_2")) ∷ (bytes "typing_2" ++ field (bytes "rules_1")) ∷ []

unfoldable pub mention_field : Mention → (which : ℕ) → List ℕ
mention_field mention which = nth_field which (mention_words mention)
