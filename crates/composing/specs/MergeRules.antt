-- When merge gives each answer, in the order of document 01: the four texts are read, 17, the four judgings, 19, 18.
use Rattle.std.specs.Prelude.{ℕ, ◌+◌, ◌≤◌, Bool, true, false, List, ◌≡◌, length}
use Rattle.model.specs.Typing.{Typing, closure, RulesPass, Accepted, Compatible}
use Rattle.model.specs.Meaning.{meaning}
use Rattle.walking.specs.Texts.{read, refused}
use Rattle.reading.specs.Policy.{Said, policy_of, read_policy}
use Rattle.typings.specs.TypingText.{Typed, read_typing, table_of}
use Rattle.judging.specs.declared.Part.{Part}
use Rattle.judging.specs.Verdict.{pinned_names}
use Rattle.judging.specs.Failures.{FirstRule, FirstFailure}
use Rattle.summing.specs.Sums.{sum_of}
use Rattle.summing.specs.Outcome.{Outcome, leaves, writes}
use Rattle.merging.specs.declared.MergeAnswer.{MergeAnswer}
use Rattle.merging.specs.Directory.{SameDirectory}
use Rattle.merging.specs.Merge.{merge_unproved, merge_refused}
use Rattle.composing.specs.SumRules.{sum_text, TextFits}

-- The first of the four judgings that fails, with the part and the number of its first failure: typing one on policy one,
-- typing two on policy two, typing one on rules two, typing two on rules one.
pub data FirstUnproved (one two : Typing) (s s' : Said) : (which : ℕ) → Part → ℕ → Type 0 where
  one_on_one : {part : Part} {number : ℕ} → FirstFailure one (policy_of s) s.holdings part number → FirstUnproved one two s s' 1 part number
  two_on_two : {part : Part} {number : ℕ} → Accepted one (policy_of s) s.holdings → FirstFailure two (policy_of s') s'.holdings part number → FirstUnproved one two s s' 2 part number
  one_on_two : {part : Part} {number : ℕ} → Accepted one (policy_of s) s.holdings → Accepted two (policy_of s') s'.holdings → FirstRule one (policy_of s') part number
      → FirstUnproved one two s s' 3 part number
  two_on_one : {part : Part} {number : ℕ} → Accepted one (policy_of s) s.holdings → Accepted two (policy_of s') s'.holdings → RulesPass closure one (policy_of s') → FirstRule two (policy_of s) part number
      → FirstUnproved one two s s' 4 part number

-- Two policies over the same directory, and all four judgings pass.
pub record Passing (s : Said) (t : Typed) (s' : Said) (u : Typed) : Type 0 where
  pub directory : SameDirectory s s'
  pub compatible : Compatible closure (meaning (table_of t)) (meaning (table_of u)) (policy_of s) (policy_of s') s.holdings

-- The joint counts of assign rules, revoke rules and goals are within their limits.
pub record CountsFit (s s' : Said) : Type 0 where
  pub assigns : length s.assigns + length s'.assigns ≤ 256
  pub revokes : length s.revokes + length s'.revokes ≤ 256
  pub goals : length s.goals + length s'.goals ≤ 32

-- Success answers the joint counts, the sum's pinned and the text's length, and writes the text.
unfoldable pub merged : Said → Typed → Said → Typed → Outcome MergeAnswer
merged s t s' u =
    writes
    (MergeAnswer.Merged (length s.roles) (length s.assigns + length s'.assigns) (length s.revokes + length s'.revokes) (length s.goals + length s'.goals)
    (pinned_names (sum_of (table_of t) (table_of u)) (length s.roles)) (length (sum_text s t u)))
    (sum_text s t u)

-- Whether an answer is success.
unfoldable pub is_merged : MergeAnswer → Bool
is_merged (MergeAnswer.Merged roles assigns revokes goals pinned written) = true
is_merged (MergeAnswer.Unproved which failure) = false
is_merged (MergeAnswer.Refused which refusal) = false

module _ (policy₁ typing₁ policy₂ typing₂ : List ℕ) where
  -- All four texts are read, and so much holds of them.
  pub record MergeTexts (Holds : Said → Typed → Said → Typed → Type 0) : Type 0 where
    pub said₁ : Said
    pub typed₁ : Typed
    pub said₂ : Said
    pub typed₂ : Typed
    pub policy_one : read_policy policy₁ ≡ read said₁
    pub typing_one : read_typing said₁.roles typing₁ ≡ read typed₁
    pub policy_two : read_policy policy₂ ≡ read said₂
    pub typing_two : read_typing said₂.roles typing₂ ≡ read typed₂
    pub holds : Holds said₁ typed₁ said₂ typed₂

  -- the four are read so
  abbrev pub merge_texts : {Holds : Said → Typed → Said → Typed → Type 0} {s s' : Said} {t u : Typed} → read_policy policy₁ ≡ read s → read_typing s.roles typing₁ ≡ read t → read_policy policy₂ ≡ read s'
      → read_typing s'.roles typing₂ ≡ read u → Holds s t s' u → MergeTexts Holds
  merge_texts {s = s} {s' = s'} {t = t} {u = u} one two three four holds = record {
    said₁ = s;
    typed₁ = t;
    said₂ = s';
    typed₂ = u;
    policy_one = one;
    typing_one = two;
    policy_two = three;
    typing_two = four;
    holds = holds;
  }

  -- The rules of merge: the answer, and what is written with it. A refusal's first number says which text it speaks of, 0 none.
  pub data Merges (room : ℕ) : Outcome MergeAnswer → Type 0 where
    no_policy_one : {number line : ℕ} → read_policy policy₁ ≡ refused number line → Merges room (leaves (merge_refused 1 number line))
    no_typing_one : {s : Said} {number line : ℕ} → read_policy policy₁ ≡ read s → read_typing s.roles typing₁ ≡ refused number line → Merges room (leaves (merge_refused 2 number line))
    no_policy_two : {s : Said} {t : Typed} {number line : ℕ} → read_policy policy₁ ≡ read s → read_typing s.roles typing₁ ≡ read t → read_policy policy₂ ≡ refused number line
        → Merges room (leaves (merge_refused 3 number line))
    no_typing_two : {s s' : Said} {t : Typed} {number line : ℕ} → read_policy policy₁ ≡ read s → read_typing s.roles typing₁ ≡ read t → read_policy policy₂ ≡ read s' → read_typing s'.roles typing₂ ≡ refused number line
        → Merges room (leaves (merge_refused 4 number line))
    differing : MergeTexts (λ s t s' u. SameDirectory s s' → ⊥) → Merges room (leaves (merge_refused 0 17 0))
    unproved : {which number : ℕ} {part : Part} → MergeTexts (λ s t s' u. SameDirectory s s' × FirstUnproved (meaning (table_of t)) (meaning (table_of u)) s s' which part number)
        → Merges room (leaves (merge_unproved which part number))
    many : MergeTexts (λ s t s' u. Passing s t s' u × (CountsFit s s' → ⊥)) → Merges room (leaves (merge_refused 0 19 0))
    long : MergeTexts (λ s t s' u. Passing s t s' u × CountsFit s s' × (TextFits room (sum_text s t u) → ⊥)) → Merges room (leaves (merge_refused 0 18 0))
    fitting : (texts : MergeTexts (λ s t s' u. Passing s t s' u × CountsFit s s' × TextFits room (sum_text s t u)))
        → Merges room (merged texts.said₁ texts.typed₁ texts.said₂ texts.typed₂)
