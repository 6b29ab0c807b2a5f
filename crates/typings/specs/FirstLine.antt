-- That the first line is a typing's header is seen in the first nine bytes.
use Rattle.std.specs.Prelude.{ℕ, ◌-◌, ◌≤◌, ◌<◌, Bool, true, false, ◌||◌, List, [], ◌∷◌, ◌++◌, ◌≡◌, refl, eqb, length, take, drop}
use Rattle.std.proofs.Common.{sym, ap, ◌∙◌, eqb-true, length-append, take-append-drop, arith}
use Rattle.std.proofs.Math.Bool.{or-false}
use Rattle.std.proofs.Math.Decide.{dec_lt}
use Rattle.text.specs.Index.{index_of, index_after}
use Rattle.text.specs.Forms.{bytes}
use Rattle.text.specs.Pieces.{part, same_bytes}
use Rattle.text.specs.PieceLaws.{same_equal, equal_same, same_answer}
use Rattle.text.specs.Begins.{begins, begins-whole}
use Rattle.typings.specs.Kind.{is_typing}

-- the bytes before the first LF are all of them, or the LF follows them
data Cut (text line : List ℕ) : Type 0 where
  whole : text ≡ line → Cut text line
  before : (rest : List ℕ) → text ≡ line ++ (10 ∷ rest) → Cut text line

first_cut : (text : List ℕ) → Cut text (take (index_of 10 text) text)
unfolding index_of index_after
first_cut [] = whole refl
first_cut (byte ∷ text) = go (eqb byte 10) refl (first_cut text)
  where
    go : (t : Bool) → eqb byte 10 ≡ t → Cut text (take (index_of 10 text) text) → Cut (byte ∷ text) (take (index_after t (index_of 10 text)) (byte ∷ text))
    go true e below = before text (ap (λ (b : ℕ). b ∷ text) (eqb-true byte 10 e))
    go false e (whole is) = whole (ap (λ (l : List ℕ). byte ∷ l) is)
    go false e (before rest is) = before rest (ap (λ (l : List ℕ). byte ∷ l) is)

-- the test of the first line, as a test of the bytes before the first LF
first_line : (text : List ℕ) → same_bytes (take (index_of 10 text) text) (bytes "typing\t1") ≡ is_typing text
unfolding is_typing
first_line text = let all : index_of 10 text ≡ index_of 10 text - 0 = omega arith in ap (λ (k : ℕ). same_bytes (take k text) (bytes "typing\t1")) all

-- a text that is no longer than the header
pub typing_short : (text : List ℕ) → length text < 9 → same_bytes text (bytes "typing\t1") ≡ is_typing text
unfolding index_of index_after
typing_short text short =
    same_answer (take (index_of 10 text) text) (bytes "typing\t1") (same_bytes text (bytes "typing\t1"))
    (λ same. ap (λ (l : List ℕ). take (index_of 10 l) l) (same_equal text (bytes "typing\t1") same))
    (λ is. go is (first_cut text))
    ∙ first_line text
  where
    go : {line : List ℕ} → line ≡ bytes "typing\t1" → Cut text line → same_bytes text (bytes "typing\t1") ≡ true
    go is (whole all) = rw (all, is) (equal_same (bytes "typing\t1"))
    go {line} is (before rest cut) = absurd (omega (arith, ap length cut, length-append line (10 ∷ rest), ap length is))

-- a longer one
pub typing_long : (text : List ℕ) → 9 ≤ length text → same_bytes (part text 0 9) (bytes "typing\t1\n") ≡ is_typing text
unfolding index_of index_after
typing_long text long =
    same_answer (take (index_of 10 text) text) (bytes "typing\t1") (same_bytes (take 9 text) (bytes "typing\t1\n"))
    (λ same. ap (λ (l : List ℕ). take (index_of 10 l) l) (sym (take-append-drop 9 text) ∙ ap (λ (l : List ℕ). l ++ drop 9 text) (same_equal (take 9 text) (bytes "typing\t1\n") same)))
    (λ is. go is (first_cut text))
    ∙ first_line text
  where
    go : {line : List ℕ} → line ≡ bytes "typing\t1" → Cut text line → same_bytes (take 9 text) (bytes "typing\t1\n") ≡ true
    go is (whole all) = absurd (omega (arith, ap length (all ∙ is)))
    go is (before rest cut) = rw (cut, is) (equal_same (bytes "typing\t1\n"))

-- of any length: the header is all of it, or it begins with the header and its LF
pub typing_begun : (text : List ℕ) → (same_bytes text (bytes "typing\t1") || begins (bytes "typing\t1\n") text) ≡ is_typing text
unfolding begins
typing_begun text = go (dec_lt (length text) 9)
  where
    shorter : length text < 9 → (begun : Bool) → begins (bytes "typing\t1\n") text ≡ begun → begun ≡ false
    shorter short true is = absurd (omega (arith, ap length (begins-whole (bytes "typing\t1\n") text is)))
    shorter short false is = refl

    longer : 9 ≤ length text → (all : Bool) → same_bytes text (bytes "typing\t1") ≡ all → all ≡ false
    longer long true is = absurd (omega (arith, ap length (same_equal text (bytes "typing\t1") is)))
    longer long false is = refl

    go : Dec (length text < 9) → (same_bytes text (bytes "typing\t1") || begins (bytes "typing\t1\n") text) ≡ is_typing text
    go (yes short) = ap (λ (b : Bool). same_bytes text (bytes "typing\t1") || b) (shorter short _ refl) ∙ or-false _ ∙ typing_short text short
    go (no long) = let most : 9 ≤ length text = omega arith in ap (λ (b : Bool). b || begins (bytes "typing\t1\n") text) (longer most _ refl) ∙ typing_long text most
