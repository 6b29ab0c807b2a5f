-- How an outcome follows from what a reader finds and from a test that is exact, and when rules are exact for it.
use Rattle.std.specs.Prelude.{ℕ, Bool, true, false, cond, List, ◌↔◌, ◌⊎◌, ◌≡◌, refl, leb, length}
use Rattle.std.proofs.Math.Bool.{and-eq-true_iff}
use Rattle.std.proofs.Common.{true≢false, inl, inr, ⊎_elim, sym, subst, ◌∙◌, leb-true, le-leb}
use Rattle.std.proofs.Math.Path.{ap}
use Rattle.walking.specs.Texts.{Reading, read, refused}
use Rattle.summing.specs.Outcome.{Outcome, leaves, writes, answer_in, when_read, fits}
use Rattle.composing.specs.SumRules.{TextFits}

-- ---- a text is read, or it is refused

module _ {S A : Type 0} (refusal : ℕ → ℕ → A) {reading : Reading S} (go : S → Outcome A) where
  -- what was read goes on
  pub when_read_lem : {s : S} → reading ≡ read s → when_read refusal reading go ≡ go s
  unfolding when_read
  when_read_lem is = ap (λ (r : Reading S). when_read refusal r go) is

  -- a refusal is the answer
  pub when_refused : {number line : ℕ} → reading ≡ refused number line → when_read refusal reading go ≡ leaves (refusal number line)
  unfolding when_read
  when_refused is = ap (λ (r : Reading S). when_read refusal r go) is

-- ---- a test that is exact

module _ {P : Type 0} {test : Bool} (exact : test ≡ true ↔ P) where
  -- what it tests is so, or it is not
  pub decided : P ⊎ (P → ⊥)
  decided = go test refl
    where
      go : (b : Bool) → test ≡ b → P ⊎ (P → ⊥)
      go true is = inl (exact.0 is)
      go false is = inr (λ holds. true≢false (sym (exact.1 holds) ∙ is))

  -- where it is so the first is taken,
  pub taken : {A : Type 0} (first second : A) → P → cond test first second ≡ first
  taken first second holds = ap (λ (b : Bool). cond b first second) (exact.1 holds)

  -- and else the second
  pub left : {A : Type 0} (first second : A) → (P → ⊥) → cond test first second ≡ second
  left first second fails = go test refl
    where
      go : (b : Bool) → test ≡ b → cond b first second ≡ second
      go true is = absurd (fails (exact.0 is))
      go false is = refl

-- The test that a text fits is exact.
pub fits_exact : (room : ℕ) (text : List ℕ) → fits room text ≡ true ↔ TextFits room text
unfolding fits
fits_exact room text = (
  λ is.
      let both = (and-eq-true_iff (leb (length text) room) (leb (length text) 32768)).0 is in
      record { buffer = leb-true (length text) room both.0; limit = leb-true (length text) 32768 both.1 },
  λ fit. (and-eq-true_iff (leb (length text) room) (leb (length text) 32768)).1 (le-leb (length text) room fit.buffer, le-leb (length text) 32768 fit.limit),
)

-- ---- rules for an outcome

-- Rules that each give the outcome, and one of which always holds, are exact for it.
pub rules_exact : {A : Type 0} {Rule : Outcome A → Type 0} (outcome : Outcome A) → ((o : Outcome A) → Rule o → outcome ≡ o) → (o : Outcome A) × Rule o → (o : Outcome A) → outcome ≡ o ↔ Rule o
rules_exact {Rule = Rule} outcome ruled (one, rule) o = (λ is. subst Rule (sym (ruled one rule) ∙ is) rule, ruled o)

module _ {A : Type 0} (outcome : Outcome A) {Success : Type 0} (test : A → Bool) (cases : Success ⊎ ((test (answer_in outcome) ≡ false) × (outcome ≡ leaves (answer_in outcome)))) where
  -- Where a test tells success from the other answers, and those write nothing: success,
  pub when_success : test (answer_in outcome) ≡ true → Success
  when_success is = ⊎_elim (λ success. success) (λ other. absurd (true≢false (sym is ∙ other.0))) cases

  -- and any other answer.
  pub when_other : (Success → test (answer_in outcome) ≡ true) → test (answer_in outcome) ≡ false → outcome ≡ leaves (answer_in outcome)
  when_other told none = ⊎_elim (λ success. absurd (true≢false (sym (told success) ∙ none))) (λ other. other.1) cases

-- A rule gives the answer, with a text that is written or without.
pub data Gives {A : Type 0} (Rule : Outcome A → Type 0) : A → Type 0 where
  leaving : {answer : A} → Rule (leaves answer) → Gives Rule answer
  writing : {answer : A} {text : List ℕ} → Rule (writes answer text) → Gives Rule answer

-- Rules that are exact for an outcome are exact for the answer in it.
pub answer_exact : {A : Type 0} {Rule : Outcome A → Type 0} (outcome : Outcome A) → ((o : Outcome A) → outcome ≡ o ↔ Rule o) → (answer : A) → answer_in outcome ≡ answer ↔ Gives Rule answer
unfolding answer_in
answer_exact {A} {Rule} outcome exact answer = (given outcome exact, λ gives. back gives)
  where
    given : (o : Outcome A) → ((o' : Outcome A) → o ≡ o' ↔ Rule o') → answer_in o ≡ answer → Gives Rule answer
    given (leaves a) told is = subst (Gives Rule) is (leaving ((told (leaves a)).0 refl))
    given (writes a text) told is = subst (Gives Rule) is (writing ((told (writes a text)).0 refl))

    back : {a : A} → Gives Rule a → answer_in outcome ≡ a
    back (leaving {answer = a} rule) = ap answer_in ((exact (leaves a)).1 rule)
    back (writing {answer = a} {text = text} rule) = ap answer_in ((exact (writes a text)).1 rule)
