-- What a line and the lines from a place on lead to.
use Rattle.std.specs.Prelude.{ℕ, suc, ◌≤◌, ◌<◌, Bool, cond, ◌≡◌, eqb, length}
use Rattle.std.proofs.Math.Bool.{true, false}
use Rattle.std.proofs.Common.{true≢false, sym, ◌∙◌, lt-ltb, le-ltb, arith}
use mathlib.Core.List.{List, [], ◌∷◌}
use Rattle.std.proofs.Math.Path.{refl, ap}
use Rattle.text.specs.Pieces.{split, onto}
use Rattle.text.specs.PieceLaws.{split_piece}
use Rattle.walking.specs.Texts.{Judged, Reading, bad, closing, ends, goes, onward, read, read_lines, read_text, refused}

-- ---- a line that adds is neither `end` nor refused

-- A line that adds adds one thing, and is neither `end` nor refused.
pub goes_one : {S : Type 0} {s t : S} → goes s ≡ goes t → s ≡ t
goes_one e = cc

pub goes_ends : {S : Type 0} {t : S} → ends ≡ goes t → ⊥
goes_ends e = true≢false (cc)

pub goes_bad : {S : Type 0} {number : ℕ} {t : S} → bad number ≡ goes t → ⊥
goes_bad e = true≢false (cc)

-- ---- reading on from a place in the text

module _ {S : Type 0} (judge : S → List ℕ → Judged S) (malformed : ℕ) where
  -- no LF is left: `end` is missing
  pub lines_end : (s : S) (line : ℕ) {pieces : List (List ℕ)} {tail : List ℕ} → pieces ≡ tail ∷ [] → read_lines judge malformed s line pieces ≡ refused malformed line
  unfolding read_lines
  lines_end s line last = ap (read_lines judge malformed s line) last

  -- a line is left: what follows it goes by its judgement
  pub lines_next : (s : S) (line : ℕ) {pieces : List (List ℕ)} {first : List ℕ} (rest : List ℕ) → pieces ≡ first ∷ split 10 rest
      → read_lines judge malformed s line pieces ≡ onward judge malformed (judge s first) s line (split 10 rest) (λ t. read_lines judge malformed t (suc line) (split 10 rest))
  unfolding read_lines
  lines_next s line {pieces} {first} rest cut =
      let some = split_piece 10 rest in
      ap (read_lines judge malformed s line) (cut ∙ ap (λ (ps : List (List ℕ)). first ∷ ps) some.2)
      ∙ ap (λ (ps : List (List ℕ)). onward judge malformed (judge s first) s line ps (λ t. read_lines judge malformed t (suc line) ps)) (sym some.2)

  -- what a judgement leads to
  pub onward_goes : {judged : Judged S} {t : S} (s : S) (line : ℕ) (below : List (List ℕ)) (reading : S → Reading S) → judged ≡ goes t → onward judge malformed judged s line below reading ≡ reading t
  unfolding onward
  onward_goes s line below reading is = ap (λ (j : Judged S). onward judge malformed j s line below reading) is

  pub onward_bad : {judged : Judged S} {number : ℕ} (s : S) (line : ℕ) (below : List (List ℕ)) (reading : S → Reading S) → judged ≡ bad number → onward judge malformed judged s line below reading ≡ refused number line
  unfolding onward
  onward_bad s line below reading is = ap (λ (j : Judged S). onward judge malformed j s line below reading) is

  pub onward_ends : {judged : Judged S} (s : S) (line : ℕ) (below : List (List ℕ)) (reading : S → Reading S) → judged ≡ ends → onward judge malformed judged s line below reading ≡ closing judge malformed s (suc line) below
  unfolding onward
  onward_ends s line below reading is = ap (λ (j : Judged S). onward judge malformed j s line below reading) is

  -- after `end`: no byte is left, or some
  pub closing_none : (s : S) (line : ℕ) (rest : List ℕ) → length rest ≡ 0 → closing judge malformed s line (split 10 rest) ≡ read s
  unfolding closing split
  closing_none s line [] none = refl
  closing_none s line (byte ∷ rest) none = absurd (omega arith)

  pub closing_some : (s : S) (line : ℕ) (rest : List ℕ) → 0 < length rest → closing judge malformed s line (split 10 rest) ≡ refused malformed line
  unfolding closing split onto
  closing_some s line [] some = absurd (omega arith)
  closing_some s line (byte ∷ rest) some = go (eqb byte 10) (split_piece 10 rest)
    where
      go : (t : Bool) → (first : List ℕ) × (more : List (List ℕ)) × (split 10 rest ≡ first ∷ more)
          → closing judge malformed s line (cond t ([] ∷ split 10 rest) (onto byte (split 10 rest))) ≡ refused malformed line
      go true piece = ap (λ (ps : List (List ℕ)). closing judge malformed s line ([] ∷ ps)) piece.2
      go false piece = ap (λ (ps : List (List ℕ)). closing judge malformed s line (onto byte ps)) piece.2

  -- the length decides first
  pub text_long : (long : ℕ) (s : S) (text : List ℕ) → 32768 < length text → read_text judge malformed long s text ≡ refused long 0
  unfolding read_text
  text_long long s text h = rw (lt-ltb 32768 (length text) h)

  pub text_fits : (long : ℕ) (s : S) (text : List ℕ) → length text ≤ 32768 → read_text judge malformed long s text ≡ read_lines judge malformed s 1 (split 10 text)
  unfolding read_text
  text_fits long s text h = rw (le-ltb 32768 (length text) h)
