-- When a piece of evidence is refused and when it is read, in the words of document 01 and of document 02, CR 2, for any tests of its lines.
use Rattle.std.specs.Prelude.{ℕ, suc, ◌≤◌, ◌<◌, Bool, true, false, List, [], ◌∷◌, ◌≡◌, length}
use Rattle.walking.specs.Texts.{Judged}
use Rattle.walking.specs.Turns.{Test, test}
use Rattle.walking.specs.Meaning.{Unbroken, Above, LineAt}

-- The tests of a line of evidence in turn: malformed, then names,
abbrev pub tests : (formed known : Bool) → List Test
tests formed known = test 15 formed ∷ test 16 known ∷ []

-- then the limit of names.
abbrev pub tests_within : (formed known within : Bool) → List Test
tests_within formed known within = test 15 formed ∷ test 16 known ∷ test 21 within ∷ []

module _ {S : Type 0} (judge : S → List ℕ → Judged S) (formed known within last : S → List ℕ → Bool) (start : S) (text : List ℕ) where
  -- The line is well formed and names what it must not.
  pub record Misnamed (s : S) (line : List ℕ) : Type 0 where
    pub is_formed : formed s line ≡ true
    pub is_unknown : known s line ≡ false

  -- The line is well formed, names what it may, and has a name above the limit.
  pub record AboveLimit (s : S) (line : List ℕ) : Type 0 where
    pub is_formed : formed s line ≡ true
    pub is_known : known s line ≡ true
    pub is_above : within s line ≡ false

  -- The line is a well formed `end`.
  pub record EndLine (s : S) (line : List ℕ) : Type 0 where
    pub is_formed : formed s line ≡ true
    pub is_known : known s line ≡ true
    pub is_within : within s line ≡ true
    pub is_last : last s line ≡ true

  -- Evidence is refused with a number at a line: 14 where it is too long; 15, 16 or 21 where all lines above the line are good and the
  -- line is malformed, names what it must not or has a name above the limit; 15 where all lines above are good and no LF is left, so
  -- that the last line has none or `end` is missing one past the last line; 15 where a byte follows the LF of `end`.
  pub data EvidenceRefusal : (number line : ℕ) → Type 0 where
    too_long : 32768 < length text → EvidenceRefusal 14 0
    malformed : {n : ℕ} {s : S} {line rest : List ℕ} → LineAt judge start text n s line rest → formed s line ≡ false → EvidenceRefusal 15 n
    misnamed : {n : ℕ} {s : S} {line rest : List ℕ} → LineAt judge start text n s line rest → Misnamed s line → EvidenceRefusal 16 n
    above_limit : {n : ℕ} {s : S} {line rest : List ℕ} → LineAt judge start text n s line rest → AboveLimit s line → EvidenceRefusal 21 n
    no_end : {n : ℕ} {s : S} {tail : List ℕ} → length text ≤ 32768 → Above judge start text n s tail → Unbroken tail → EvidenceRefusal 15 n
    after_end : {n : ℕ} {s : S} {line rest : List ℕ} {byte : ℕ} → LineAt judge start text n s line (byte ∷ rest) → EndLine s line → EvidenceRefusal 15 (suc n)

  -- Evidence is read: some line, all above it good, is a well formed `end`, and nothing follows its LF.
  pub record EvidenceReadAs (said : S) : Type 0 where
    pub number : ℕ
    pub line : List ℕ
    pub ending : LineAt judge start text number said line []
    pub is_end : EndLine said line
