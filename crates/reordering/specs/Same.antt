-- A text that is like a text that is read is read too, and says the same.
use Rattle.std.specs.Prelude.{ℕ, suc, ◌+◌, ◌≤◌, ◌≡◌, refl, length}
use mathlib.Core.List.Memᴰ.{head as front}
use mathlib.Core.List.Memᴰ.{tail as later}
use mathlib.Core.List.{List, [], ◌∷◌, ◌++◌, append_assoc, Memᴰ as Listed}
use Rattle.std.proofs.Common.{sym, ap, ap₂, subst, ◌∙◌, length-append, arith}
use Rattle.text.specs.Pieces.{split}
use Rattle.walking.specs.Texts.{read}
use Rattle.walking.specs.TextLaws.{text_fits}
use Rattle.walking.specs.MeaningLaws.{read_exact}
use Rattle.reading.specs.Policy.{Said, nothing, judge_line, read_policy}
use Rattle.reordering.specs.Alike.{Reordered, Each, LineAlike, HasLine, TextAlike}
use Rattle.reordering.specs.Orders.{total, reordered_back, reordered_listed, reordered_length, reordered_total}
use Rattle.reordering.specs.FieldsSame.{split_length}
use Rattle.reordering.specs.LinesSame.{line_length_lem, line_same}
use Rattle.reordering.specs.HeldSame.{Led, has_no_end, held_same}
use Rattle.reordering.specs.Leading.{Leading, Leads, lines_lead, lead_lines, first-leads, no_piece}

-- ---- pieces that may stand for others

-- As many, as long together, and read where the others are.
record Follows (pieces others : List (List ℕ)) : Type 0 where
  number : length pieces ≡ length others
  long : total pieces ≡ total others
  reads : (s u : Said) → Leading s others u → Leading s pieces u

-- one empty piece has no bytes, and no others are so
only_empty : (pieces : List (List ℕ)) → length pieces ≡ 1 → total pieces ≡ 0 → pieces ≡ [] ∷ []
unfolding total
only_empty [] one none = absurd (omega (arith, one))
only_empty ([] ∷ []) one none = refl
only_empty ((byte ∷ rest) ∷ []) one none = absurd (omega (arith, none))
only_empty (piece ∷ next ∷ pieces) one none = absurd (omega (arith, one))

empty_follows : {pieces others : List (List ℕ)} → Follows pieces others → others ≡ [] ∷ [] → pieces ≡ [] ∷ []
unfolding total
empty_follows {pieces} follows is = only_empty pieces (follows.number ∙ ap length is) (follows.long ∙ ap total is)

none_follow : Follows [] []
none_follow = record { number = refl; long = refl; reads = λ s u leading. absurd (no_piece leading) }

-- one line before them,
line_follows : {line other : List ℕ} {pieces others : List (List ℕ)} → LineAlike line other → Follows pieces others → Follows (line ∷ pieces) (other ∷ others)
unfolding total
line_follows {line} {other} {pieces} {others} alike follows = record {
  number = ap suc follows.number;
  long = ap₂ ◌+◌ (line_length_lem line other alike) follows.long;
  reads = λ s u leading. go (first-leads leading);
}
  where
    go : {s u : Said} → Leads other others s u → Leading s (line ∷ pieces) u
    go {s} (Leads.last is no_more) = subst (λ (ps : List (List ℕ)). Leading s (line ∷ ps) s) (sym (empty_follows follows no_more)) (Leading.last (line_same s line other alike ∙ is))
    go {s} {u} (Leads.more {t = t} is below) = Leading.more (line_same s line other alike ∙ is) (follows.reads t u below)

-- lines before them,
lines_follow : {above above' pieces others : List (List ℕ)} → Each LineAlike above above' → Follows pieces others → Follows (above ++ pieces) (above' ++ others)
lines_follow Each.none follows = follows
lines_follow (Each.more alike below) follows = line_follows alike (lines_follow below follows)

all_follow : {lines others : List (List ℕ)} → Each LineAlike lines others → Follows lines others
all_follow Each.none = none_follow
all_follow (Each.more alike below) = line_follows alike (all_follow below)

-- and has lines before them.
record Parted (s : Said) (held pieces : List (List ℕ)) (u : Said) : Type 0 where
  said : Said
  led : Led s held said
  leading : Leading said pieces u

held_parted : {s u : Said} (held : List (List ℕ)) {pieces : List (List ℕ)} → ((x : List ℕ) → Listed x held → HasLine x) → Leading s (held ++ pieces) u → Parted s held pieces u
held_parted {s} [] each leading = record { said = s; led = Led.done; leading = leading }
held_parted {s} {u} (line ∷ held) {pieces} each leading = go (first-leads leading) (λ t below. held_parted held (λ x listed. each x (later listed)) below)
  where
    go : {s u : Said} → Leads line (held ++ pieces) s u → ((t : Said) → Leading t (held ++ pieces) u → Parted t held pieces u) → Parted s (line ∷ held) pieces u
    go {s} (Leads.last is no_more) below = absurd (has_no_end s line (each line (front refl)) is)
    go (Leads.more {t = t} is on) below = let p = below t on in record { said = p.said; led = Led.next is p.led; leading = p.leading }

led_leads : {s t u : Said} {held pieces : List (List ℕ)} → Led s held t → Leading t pieces u → Leading s (held ++ pieces) u
led_leads Led.done leading = leading
led_leads (Led.next is below) leading = Leading.more is (led_leads below leading)

total_append : (xs ys : List (List ℕ)) → total (xs ++ ys) ≡ total xs + total ys
unfolding total
total_append [] ys = omega arith
total_append (x ∷ xs) ys = omega (arith, total_append xs ys)

held_follow : {held held' pieces others : List (List ℕ)} → Reordered held held' → ((x : List ℕ) → Listed x held → HasLine x) → Follows pieces others → Follows (held ++ pieces) (held' ++ others)
held_follow {held} {held'} {pieces} {others} order each follows = record {
  number = omega (arith, length-append held pieces, length-append held' others, reordered_length order, follows.number);
  long = omega (arith, total_append held pieces, total_append held' others, reordered_total order, follows.long);
  reads = λ s u leading.
      let p = held_parted held' (λ x listed. each x (reordered_listed (reordered_back order) listed)) leading in
      led_leads (held_same order each p.led) (follows.reads p.said u p.leading);
}

-- ---- texts

-- A text that is like another is read where that is, and says the same.
pub reordered_same : (text other : List ℕ) {s : Said} → TextAlike text other → read_policy other ≡ read s → read_policy text ≡ read s
unfolding read_policy
reordered_same text other {s} alike is =
    let fits : length other ≤ 32768 = ((read_exact judge_line 11 10 nothing other s).0 is).last.fits in
    let leading = lines_lead nothing s 1 (split 10 other) (sym (text_fits judge_line 11 10 nothing other fits) ∙ is) in
    text_fits judge_line 11 10 nothing text (omega (arith, same_length, fits)) ∙ lead_lines 1 (whole.reads nothing s leading)
  where
    cut : {pieces : List (List ℕ)} (before held after : List (List ℕ)) → pieces ≡ before ++ held ++ after → before ++ (held ++ after) ≡ pieces
    cut before held after are = sym (are ∙ append_assoc before held after)

    whole : Follows (split 10 text) (split 10 other)
    whole =
        subst (λ (ps : List (List ℕ)). Follows ps (split 10 other)) (cut alike.before alike.held alike.after alike.lines)
        (subst (λ (ps : List (List ℕ)). Follows (alike.before ++ (alike.held ++ alike.after)) ps) (cut alike.before' alike.held' alike.after' alike.lines')
        (lines_follow alike.above (held_follow alike.reordered alike.all_has (all_follow alike.below))))

    same_length : length text ≡ length other
    same_length = omega (arith, split_length 10 text, split_length 10 other, whole.number, whole.long)
