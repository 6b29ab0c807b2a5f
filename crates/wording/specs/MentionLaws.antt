-- How the field of a mention comes to be, and how long it is.
use Rattle.std.specs.Prelude.{ℕ, zero, suc, ◌+◌, ◌-◌, ◌≤◌, ◌<◌, Some, None, List, [], ◌∷◌, ◌++◌, ◌≡◌, refl, slice_get, get_or, map, option_map, length}
use Rattle.std.specs.List.{All}
use Rattle.std.proofs.Common.{append-nil, ap, ◌∙◌, subst, lit≤, Bor, arith}
use Rattle.std.proofs.lemmas.Option.{get_or_from_slice_get, slice_get-map, slice_get_past, slice_get_read, slice_get_within}
use Rattle.std.proofs.lemmas.List.Elements.{All-get_or}
use Rattle.text.specs.Forms.{bytes}
use Rattle.showing.specs.Fields.{field}
use Rattle.showing.specs.Steps.{Goes, goes_none}
use Rattle.wording.specs.declared.Mention.{Mention}
use Rattle.wording.specs.Mentions.{nth_field, mention_words, mention_field}

-- a word that has a number
pub nth_known : (words : List (List ℕ)) (which : ℕ) {place : ℕ} {word : List ℕ} {most at next : ℕ} {before after : List ℕ} → (1 ≤ which) × (place ≡ which - 1) → slice_get words place ≡ Some word
    → Goes (field word) most at before next after → Goes (nth_field which words) most at before next after
unfolding nth_field
nth_known words zero numbered is goes = absurd (omega (arith, numbered))
nth_known words (suc before) {word = word} numbered is goes =
    let here : slice_get words before ≡ Some word = ap (slice_get words) (omega (arith, numbered)) ∙ is in
    rw here goes

-- a number of none of them
pub nth_none : (words : List (List ℕ)) (which : ℕ) {place most at : ℕ} {out : List ℕ} → (1 ≤ which) × (place ≡ which - 1) → slice_get words place ≡ None → Goes (nth_field which words) most at out at out
unfolding nth_field
nth_none words zero numbered is = goes_none
nth_none words (suc before) numbered is =
    let here : slice_get words before ≡ None = ap (slice_get words) (omega (arith, numbered)) ∙ is in
    rw here goes_none

pub nth_zero : (words : List (List ℕ)) {which most at : ℕ} {out : List ℕ} → which ≡ 0 → Goes (nth_field which words) most at out at out
unfolding nth_field
nth_zero words is = rw is goes_none

-- each of them is short
pub word_short : (words : List (List ℕ)) (place : ℕ) {word : List ℕ} → All (λ (w : List ℕ). length w ≤ 20) words → slice_get words place ≡ Some word → length word ≤ 20
word_short words place {word} short is =
    subst (λ (w : List ℕ). length w ≤ 20) (get_or_from_slice_get words place word [] is) (All-get_or (λ (w : List ℕ). length w ≤ 20) words place [] (slice_get_within words place word is) short)

-- a word of lent words, and none past them
pub word_at : (words : List (Bor (List ℕ))) (place : ℕ) (word : Bor (List ℕ)) → place < length words → word ≡ get_or words place word → slice_get (map (λ (w : Bor (List ℕ)). w.now) words) place ≡ Some word.now
word_at words place word here is = slice_get-map (λ (w : Bor (List ℕ)). w.now) words place ∙ ap (option_map (λ (w : Bor (List ℕ)). w.now)) (slice_get_read words (length words) place word refl here is)

pub word_past : (words : List (Bor (List ℕ))) (place : ℕ) → length words ≤ place → slice_get (map (λ (w : Bor (List ℕ)). w.now) words) place ≡ None
word_past words place past = slice_get-map (λ (w : Bor (List ℕ)). w.now) words place ∙ ap (option_map (λ (w : Bor (List ℕ)). w.now)) (slice_get_past words place past)

-- the words of a mention that is known
pub mention_made : {mention known : Mention} {words : List (List ℕ)} (which : ℕ) {most at next : ℕ} {before after : List ℕ} → mention ≡ known → words ≡ mention_words known → Goes (nth_field which words) most at before next after
    → Goes (mention_field mention which) most at before next after
unfolding mention_field
mention_made which is same goes = rw (is, ← same) goes

-- a line that speaks of nothing
pub of_nothing : (text : List ℕ) (mention : Mention) → text ++ mention_field mention 0 ++ bytes "\n" ≡ text ++ bytes "\n"
unfolding mention_field nth_field
of_nothing text mention = ap (λ (l : List ℕ). l ++ bytes "\n") (append-nil text)

-- what a line speaks of is short
nth_length : (which most : ℕ) (one two three four : List ℕ) → length one ≤ most → length two ≤ most → length three ≤ most → length four ≤ most → length (nth_field which (one ∷ two ∷ three ∷ four ∷ [])) ≤ most + 1
unfolding nth_field field
nth_length zero most one two three four first second third fourth = omega arith
nth_length (suc zero) most one two three four first second third fourth = omega (arith, first)
nth_length (suc (suc zero)) most one two three four first second third fourth = omega (arith, second)
nth_length (suc (suc (suc zero))) most one two three four first second third fourth = omega (arith, third)
nth_length (suc (suc (suc (suc zero)))) most one two three four first second third fourth = omega (arith, fourth)
nth_length (suc (suc (suc (suc (suc place))))) most one two three four first second third fourth = omega arith

pub mention_length : (mention : Mention) (which : ℕ) → length (mention_field mention which) ≤ 18
unfolding mention_field mention_words field
mention_length Mention.SumText which = nth_length which 17 _ _ _ _ (lit≤ tt) (lit≤ tt) (lit≤ tt) (lit≤ tt)
mention_length Mention.MergeText which = nth_length which 17 _ _ _ _ (lit≤ tt) (lit≤ tt) (lit≤ tt) (lit≤ tt)
mention_length Mention.Judging which = nth_length which 17 _ _ _ _ (lit≤ tt) (lit≤ tt) (lit≤ tt) (lit≤ tt)
