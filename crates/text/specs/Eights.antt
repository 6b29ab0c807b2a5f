-- Eight bytes at a time: what a test of all eight says of a search, of a form and of a word.
use Rattle.std.specs.Prelude.{ℕ, zero, suc, ◌+◌, ◌-◌, ◌≤◌, ◌<◌, Bool, true, false, not, ◌&&◌, List, [], ◌∷◌, ◌≡◌, refl, eqb, leb, length, get_or, take, drop}
use Rattle.std.proofs.Math.Bool.{and-true, and_assoc, and-eq-true_iff}
use Rattle.std.proofs.lemmas.Bool.{false≢true, not-true, lt-leb}
use Rattle.std.proofs.Common.{sym, ap, ◌∙◌, leb-true, le-leb, length-drop, take-append-drop, drop-cons, drop-drop, take_all, arith}
use Rattle.text.specs.Index.{index_of, index_after}
use Rattle.text.specs.Forms.{every}
use Rattle.text.specs.FormLaws.{every_more, every_take, every_drop}
use Rattle.text.specs.Pieces.{Sought}

-- a byte that is not the mark
unfoldable pub unlike : ℕ → ℕ → Bool
unlike mark byte = not (eqb byte mark)

-- the first eight bytes are there, and none of them is the mark
unfoldable pub eight_clear : ℕ → List ℕ → Bool
eight_clear mark s = leb 8 (length s) && every (unlike mark) (take 8 s)

-- ---- the eight bytes, one by one

pub eight-bytes : (s : List ℕ) (at : ℕ) → at + 8 ≤ length s
    → take 8 (drop at s)
    ≡ get_or s at 0 ∷ get_or s (at + 1) 0 ∷ get_or s (at + 2) 0 ∷ get_or s (at + 3) 0 ∷ get_or s (at + 4) 0 ∷ get_or s (at + 5) 0 ∷ get_or s (at + 6) 0 ∷ get_or s (at + 7) 0 ∷ []
eight-bytes s at h = rw (byte at (at + 1) (omega arith) (omega arith), byte (at + 1) (at + 2) (omega arith) (omega arith), byte (at + 2) (at + 3) (omega arith) (omega arith), byte (at + 3) (at + 4) (omega arith) (omega arith), byte (at + 4) (at + 5) (omega arith) (omega arith), byte (at + 5) (at + 6) (omega arith) (omega arith), byte (at + 6) (at + 7) (omega arith) (omega arith), byte (at + 7) (at + 8) (omega arith) (omega arith))
  where
    byte : (i j : ℕ) → i < length s → suc i ≡ j → drop i s ≡ get_or s i 0 ∷ drop j s
    byte i j here on = drop-cons s i 0 here ∙ ap (λ (n : ℕ). get_or s i 0 ∷ drop n s) on

-- a test of all eight
pub every-eight : (test : ℕ → Bool) (s : List ℕ) (at : ℕ) → at + 8 ≤ length s
    → every test (take 8 (drop at s))
    ≡ (test (get_or s at 0) && test (get_or s (at + 1) 0) && test (get_or s (at + 2) 0) && test (get_or s (at + 3) 0) && test (get_or s (at + 4) 0) && test (get_or s (at + 5) 0) && test (get_or s (at + 6) 0) && test (get_or s (at + 7) 0))
unfolding every
every-eight test s at h = ap (every test) (eight-bytes s at h) ∙ sym (simp (and_assoc, and-true))

-- ---- a search that passes over eight bytes

pub clear_short : (mark : ℕ) (s : List ℕ) (at : ℕ) → length s - at < 8 → eight_clear mark (drop at s) ≡ false
unfolding eight_clear
clear_short mark s at short = rw (lt-leb 8 (length (drop at s)) (omega (arith, length-drop at s)))

pub clear_here : (mark : ℕ) (s : List ℕ) (at : ℕ) → 8 ≤ length s - at → eight_clear mark (drop at s) ≡ every (unlike mark) (take 8 (drop at s))
unfolding eight_clear
clear_here mark s at here = rw (le-leb 8 (length (drop at s)) (omega (arith, length-drop at s)))

-- bytes that are all unlike the mark are passed over
index_passed : (mark n : ℕ) (s : List ℕ) → n ≤ length s → every (unlike mark) (take n s) ≡ true → index_of mark s ≡ n + index_of mark (drop n s)
unfolding every unlike index_of index_after
index_passed mark zero s h other = omega arith
index_passed mark (suc n) [] h other = absurd (omega arith)
index_passed mark (suc n) (byte ∷ s) h other =
    let parts = (and-eq-true_iff (not (eqb byte mark)) (every (unlike mark) (take n s))).0 other in
    let below = index_passed mark n s (omega arith) parts.1 in
    rw (not-true (eqb byte mark) parts.0) (omega arith)

-- and only such bytes are
index_past : (mark n : ℕ) (s : List ℕ) → n ≤ length s → n ≤ index_of mark s → every (unlike mark) (take n s) ≡ true
unfolding every unlike index_of index_after
index_past mark zero s h past = refl
index_past mark (suc n) [] h past = absurd (omega arith)
index_past mark (suc n) (byte ∷ s) h past = go (eqb byte mark) refl past (λ far. index_past mark n s (omega arith) far)
  where
    go : (b : Bool) → eqb byte mark ≡ b → suc n ≤ index_after b (index_of mark s) → (n ≤ index_of mark s → every (unlike mark) (take n s) ≡ true)
        → (not (eqb byte mark) && every (unlike mark) (take n s)) ≡ true
    go true is far more = absurd (omega arith)
    go false is far more = rw is (more (omega arith))

pub clear_past : (mark : ℕ) (s : List ℕ) (at : ℕ) → at + 8 ≤ length s → 8 ≤ index_of mark (drop at s) → eight_clear mark (drop at s) ≡ true
clear_past mark s at here past = clear_here mark s at (omega arith) ∙ index_past mark 8 (drop at s) (omega (arith, length-drop at s)) past

-- what is sought from eight bytes further on is sought from here
pub record Passing (mark : ℕ) (s : List ℕ) (at : ℕ) : Type 0 where
  pub fits : at + 8 ≤ length s
  pub back : (place : ℕ) → Sought s (at + 8) mark place → Sought s at mark place

pub clear_passing : (mark : ℕ) (s : List ℕ) (at : ℕ) → eight_clear mark (drop at s) ≡ true → Passing mark s at
unfolding eight_clear
clear_passing mark s at clear =
    let parts = (and-eq-true_iff (leb 8 (length (drop at s))) (every (unlike mark) (take 8 (drop at s)))).0 clear in
    let here : 8 ≤ length (drop at s) = leb-true 8 (length (drop at s)) parts.0 in
    let passed = index_passed mark 8 (drop at s) here parts.1 ∙ ap (λ (rest : List ℕ). 8 + index_of mark rest) (drop-drop 8 at s) in
    record {
      fits = omega (arith, length-drop at s);
      back = λ place sought. record { first = omega (arith, sought.first, passed); within = sought.within };
    }

-- ---- a test that goes through a byte string by eights

-- what fails of a part fails of the whole
part_fails : (whole part : Bool) → (whole ≡ true → part ≡ true) → part ≡ false → whole ≡ false
part_fails true part all bad = absurd (false≢true (sym bad ∙ all refl))
part_fails false part all bad = refl

-- the first eight fail, or the test goes on after them
pub eight_bad : (test : ℕ → Bool) (s : List ℕ) (at : ℕ) → every test (take 8 (drop at s)) ≡ false → every test (drop at s) ≡ false
eight_bad test s at bad = part_fails (every test (drop at s)) (every test (take 8 (drop at s))) (every_take test 8 (drop at s)) bad

pub eight_good : (test : ℕ → Bool) (s : List ℕ) (at : ℕ) → every test (take 8 (drop at s)) ≡ true → every test (drop at s) ≡ every test (drop (at + 8) s)
eight_good test s at good =
    ap (every test) (sym (take-append-drop 8 (drop at s)))
    ∙ every_more test (take 8 (drop at s)) (drop 8 (drop at s))
    ∙ ap (λ (b : Bool). b && every test (drop 8 (drop at s))) good
    ∙ ap (every test) (drop-drop 8 at s)

-- the last eight decide, where they begin no later than what is left
pub eight_last : (test : ℕ → Bool) (s : List ℕ) (at last : ℕ) → last + 8 ≡ length s → last ≤ at → every test s ≡ every test (drop at s) → every test s ≡ every test (take 8 (drop last s))
eight_last test s at last end begun left = rw (take_all 8 (drop last s) (omega (arith, length-drop last s))) (go (every test (drop last s)) refl)
  where
    go : (b : Bool) → every test (drop last s) ≡ b → every test s ≡ b
    go true good =
        let on : last + (at - last) ≡ at = omega arith in
        left ∙ ap (λ (k : ℕ). every test (drop k s)) (sym on) ∙ ap (every test) (sym (drop-drop (at - last) last s)) ∙ every_drop test (at - last) (drop last s) good
    go false bad = part_fails (every test s) (every test (drop last s)) (every_drop test last s) bad
