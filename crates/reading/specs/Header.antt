-- The header of a policy text: it is the first line, with its LF, or the text is refused at line 1.
use Rattle.std.specs.Prelude.{ℕ, ◌≤◌, Bool, true, false, cond, List, [], ◌∷◌, ◌++◌, ◌≡◌, refl, length}
use Rattle.std.proofs.Common.{ap₂, ◌∙◌}
use Rattle.text.specs.Forms.{bytes}
use Rattle.text.specs.Pieces.{split, same_bytes}
use Rattle.text.specs.PieceLaws.{same_equal}
use Rattle.text.specs.Begins.{begins}
use Rattle.walking.specs.Texts.{Judged, bad, refused}
use Rattle.walking.specs.FirstLine.{first_piece, not_begun}
use Rattle.lines.specs.Lines.{Line, header, role, user, has, assign, revoke, goal, end, other, one_field, two_fields, three_fields, five_fields, line_of, in_order, asked, tests}
use Rattle.walking.specs.Turns.{test, in_turn}
use Rattle.reading.specs.Policy.{Said, nothing, counts_of, is_new, leads, line_asked, line_tests, judge_line, read_policy}
use Rattle.reading.specs.PolicyExact.{whole_piece}

-- a line that is not the header is malformed before any other line
not_header : (line : List ℕ) → (line ≡ bytes "arbac\t1" → ⊥) → judge_line nothing line ≡ bad 11
unfolding judge_line line_tests line_asked in_turn tests asked in_order line_of one_field two_fields three_fields five_fields counts_of nothing
not_header line other-line = go (split 9 line) refl
  where
    answer : Line → Judged Said
    answer l = let a = asked (counts_of nothing) [] [] l in in_turn bad (tests a.formed a.within a.known ++ (test 11 (is_new [] a.says) ∷ [])) (leads nothing a.says)

    one : (t : Bool) → answer (cond t end other) ≡ bad 11
    one true = refl
    one false = refl

    edition : (a : List ℕ) (t : Bool) → same_bytes a (bytes "1") ≡ t → (a ≡ bytes "1" → ⊥) → answer (header a) ≡ bad 11
    edition a true same differs = absurd (differs (same_equal a (bytes "1") same))
    edition a false same differs = rw same

    two : (a : List ℕ) (t u v : Bool) → (v ≡ true → a ≡ bytes "1" → ⊥) → answer (cond t (role a) (cond u (goal a) (cond v (header a) other))) ≡ bad 11
    two a true u v differs = refl
    two a false true v differs = refl
    two a false false true differs = edition a (same_bytes a (bytes "1")) refl (differs refl)
    two a false false false differs = refl

    three : (a b : List ℕ) (t u v : Bool) → answer (cond t (has a b) (cond u (revoke a b) (cond v (user a b) other))) ≡ bad 11
    three a b true u v = refl
    three a b false true v = refl
    three a b false false true = refl
    three a b false false false = refl

    five : (a b c d : List ℕ) (t : Bool) → answer (cond t (assign a b c d) other) ≡ bad 11
    five a b c d true = refl
    five a b c d false = refl

    whole : (w a : List ℕ) → split 9 line ≡ w ∷ a ∷ [] → same_bytes w (bytes "arbac") ≡ true → a ≡ bytes "1" → line ≡ bytes "arbac\t1"
    whole w a cut word last =
        let (rest, is, left) = first_piece 9 line cut in
        is ∙ ap₂ (λ (x y : List ℕ). x ++ (9 ∷ y)) (same_equal w (bytes "arbac") word) (whole_piece 9 rest left ∙ last)

    go : (pieces : List (List ℕ)) → split 9 line ≡ pieces → answer (line_of pieces) ≡ bad 11
    go [] cut = refl
    go (w ∷ []) cut = one (same_bytes w (bytes "end"))
    go (w ∷ a ∷ []) cut = two a (same_bytes w (bytes "role")) (same_bytes w (bytes "goal")) (same_bytes w (bytes "arbac")) (λ word last. other-line (whole w a cut word last))
    go (w ∷ a ∷ b ∷ []) cut = three a b (same_bytes w (bytes "has")) (same_bytes w (bytes "revoke")) (same_bytes w (bytes "user"))
    go (w ∷ a ∷ b ∷ c ∷ []) cut = refl
    go (w ∷ a ∷ b ∷ c ∷ d ∷ []) cut = five a b c d (same_bytes w (bytes "assign"))
    go (w ∷ a ∷ b ∷ c ∷ d ∷ e ∷ more) cut = refl

-- A text that is not too long and does not begin with the header is malformed at line 1.
pub headless : (text : List ℕ) → length text ≤ 32768 → begins (bytes "arbac\t1\n") text ≡ false → read_policy text ≡ refused 11 1
unfolding read_policy
headless text short none = not_begun judge_line 11 10 nothing (bytes "arbac\t1") not_header text short none
