-- When sum gives each answer, in the order of document 01: the policy is read, the first typing, the second, then 18.
use Rattle.std.specs.Prelude.{ℕ, ◌≤◌, Bool, true, false, List, ◌≡◌, length, Ok, Err}
use Rattle.walking.specs.Texts.{read, refused}
use Rattle.reading.specs.Policy.{Said, read_policy}
use Rattle.typings.specs.TypingText.{Typed, read_typing, table_of}
use Rattle.judging.specs.Verdict.{pinned_names}
use Rattle.spelling.specs.TypingText.{typing_text}
use Rattle.summing.specs.Sum.{SumAnswer, sum_made, sum_refused}
use Rattle.summing.specs.Sums.{sum_of}
use Rattle.summing.specs.Outcome.{Outcome, leaves, writes}

-- The sum of two typings as a typing text over a policy's roles.
unfoldable pub sum_text : Said → Typed → Typed → List ℕ
sum_text s t u = typing_text s.roles (sum_of (table_of t) (table_of u))

-- A text is no longer than the lent buffer and no longer than 32,768 bytes.
pub record TextFits (room : ℕ) (text : List ℕ) : Type 0 where
  pub buffer : length text ≤ room
  pub limit : length text ≤ 32768

-- Success answers pinned and the text's length, and writes the text.
unfoldable pub summed : Said → Typed → Typed → Outcome SumAnswer
summed s t u = writes (sum_made (pinned_names (sum_of (table_of t) (table_of u)) (length s.roles)) (length (sum_text s t u))) (sum_text s t u)

-- Whether an answer is success.
unfoldable pub is_summed : SumAnswer → Bool
is_summed (Ok done) = true
is_summed (Err failed) = false

module _ (policy first second : List ℕ) where
  -- The policy and both typings are read, and so much holds of them.
  pub record SumTexts (Holds : Said → Typed → Typed → Type 0) : Type 0 where
    pub said : Said
    pub one : Typed
    pub two : Typed
    pub policy_read : read_policy policy ≡ read said
    pub first_read : read_typing said.roles first ≡ read one
    pub second_read : read_typing said.roles second ≡ read two
    pub holds : Holds said one two

  -- the three are read so
  abbrev pub sum_texts : {Holds : Said → Typed → Typed → Type 0} {s : Said} {t u : Typed} → read_policy policy ≡ read s → read_typing s.roles first ≡ read t → read_typing s.roles second ≡ read u → Holds s t u → SumTexts Holds
  sum_texts {s = s} {t = t} {u = u} reads one two holds = record { said = s; one = t; two = u; policy_read = reads; first_read = one; second_read = two; holds = holds }

  -- The rules of sum: the answer, and what is written with it. A refusal's first number says which text it speaks of, 0 none.
  pub data Sums (room : ℕ) : Outcome SumAnswer → Type 0 where
    no_policy : {number line : ℕ} → read_policy policy ≡ refused number line → Sums room (leaves (sum_refused 1 number line))
    no_first : {s : Said} {number line : ℕ} → read_policy policy ≡ read s → read_typing s.roles first ≡ refused number line → Sums room (leaves (sum_refused 2 number line))
    no_second : {s : Said} {t : Typed} {number line : ℕ} → read_policy policy ≡ read s → read_typing s.roles first ≡ read t → read_typing s.roles second ≡ refused number line
        → Sums room (leaves (sum_refused 3 number line))
    long : SumTexts (λ s t u. TextFits room (sum_text s t u) → ⊥) → Sums room (leaves (sum_refused 0 18 0))
    fitting : (texts : SumTexts (λ s t u. TextFits room (sum_text s t u))) → Sums room (summed texts.said texts.one texts.two)
