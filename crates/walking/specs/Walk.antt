-- Reading a text from line to line: at each place the whole text gives what the lines from there on give.
use Rattle.std.specs.Prelude.{ℕ, suc, ◌+◌, ◌≤◌, ◌<◌, List, ◌≡◌, refl, length, drop}
use Rattle.std.proofs.Common.{zero-le, sym, ap, ◌∙◌, length-drop, drop_of_length-le, add-one, arith}
use Rattle.text.specs.Pieces.{split, part, Sought}
use Rattle.text.specs.PieceLaws.{sought_some, sought_last}
use Rattle.walking.specs.Texts.{Judged, goes, ends, bad, read, refused, read_text, read_lines, onward, closing}
use Rattle.walking.specs.TextLaws.{lines_end, lines_next, onward_goes, onward_bad, onward_ends, closing_none, closing_some, text_fits}

module _ {S : Type 0} (judge : S → List ℕ → Judged S) (malformed long : ℕ) (start : S) where
  -- before the line of this number, with s read of the lines above
  pub record On (text : List ℕ) (at number : ℕ) (s : S) : Type 0 where
    pub left : read_text judge malformed long start text ≡ read_lines judge malformed s number (split 10 (drop at text))
    pub within : at ≤ length text
    pub short : length text ≤ 32768
    pub numbered : number ≤ at + 1

  pub on_start : (text : List ℕ) → length text ≤ 32768 → On text 0 1 start
  on_start text short = record { left = text_fits judge malformed long start text short; within = zero-le; short = short; numbered = omega arith }

  module _ {text : List ℕ} {at number : ℕ} {s : S} (on : On text at number s) where
    -- no line is left, or one without LF
    pub on_end : length text ≤ at → read_text judge malformed long start text ≡ refused malformed number
    unfolding split
    on_end past = on.left ∙ lines_end judge malformed s number (ap (split 10) (drop_of_length-le text past))

    module _ {stop : ℕ} (sought : Sought text at 10 stop) where
      pub on_tail : stop ≡ length text → read_text judge malformed long start text ≡ refused malformed number
      on_tail last = on.left ∙ lines_end judge malformed s number (sought_last text at 10 stop on.within sought last)

      module _ (here : stop < length text) where
        -- a line that goes by its judgement
        onwards : {judged : Judged S} → judge s (part text at stop) ≡ judged
            → read_text judge malformed long start text ≡ onward judge malformed judged s number (split 10 (drop (stop + 1) text)) (λ t. read_lines judge malformed t (suc number) (split 10 (drop (stop + 1) text)))
        onwards is =
            on.left ∙ lines_next judge malformed s number (drop (stop + 1) text) (sought_some text at 10 stop sought here)
            ∙ ap (λ (j : Judged S). onward judge malformed j s number (split 10 (drop (stop + 1) text)) (λ t. read_lines judge malformed t (suc number) (split 10 (drop (stop + 1) text)))) is

        pub on_bad : {k : ℕ} → judge s (part text at stop) ≡ bad k → read_text judge malformed long start text ≡ refused k number
        on_bad is = onwards is ∙ onward_bad judge malformed s number (split 10 (drop (stop + 1) text)) (λ t. read_lines judge malformed t (suc number) (split 10 (drop (stop + 1) text))) refl

        pub on_goes : {t : S} → judge s (part text at stop) ≡ goes t → On text (stop + 1) (number + 1) t
        on_goes {t} is = record {
          left =
              onwards is ∙ onward_goes judge malformed s number (split 10 (drop (stop + 1) text)) (λ u. read_lines judge malformed u (suc number) (split 10 (drop (stop + 1) text))) refl
              ∙ ap (λ (n : ℕ). read_lines judge malformed t n (split 10 (drop (stop + 1) text))) (sym (add-one number));
          within = omega arith;
          short = on.short;
          numbered = omega (arith, sought.first, on.numbered);
        }

        -- the last line, and bytes after it
        closed : judge s (part text at stop) ≡ ends → read_text judge malformed long start text ≡ closing judge malformed s (suc number) (split 10 (drop (stop + 1) text))
        closed is = onwards is ∙ onward_ends judge malformed s number (split 10 (drop (stop + 1) text)) (λ t. read_lines judge malformed t (suc number) (split 10 (drop (stop + 1) text))) refl

        pub on_last : judge s (part text at stop) ≡ ends → length text ≤ stop + 1 → read_text judge malformed long start text ≡ read s
        on_last is all =
            let none : length (drop (stop + 1) text) ≡ 0 = omega (arith, length-drop (stop + 1) text) in
            closed is ∙ closing_none judge malformed s (suc number) (drop (stop + 1) text) none

        pub on_more : judge s (part text at stop) ≡ ends → stop + 1 < length text → read_text judge malformed long start text ≡ refused malformed (number + 1)
        on_more is left =
            let some : 0 < length (drop (stop + 1) text) = omega (arith, length-drop (stop + 1) text) in
            closed is ∙ closing_some judge malformed s (suc number) (drop (stop + 1) text) some ∙ ap (λ (n : ℕ). refused malformed n) (sym (add-one number))
