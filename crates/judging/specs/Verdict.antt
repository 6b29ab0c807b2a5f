-- The verdict on a typing, part by part in document 01's order, with the number of the first that fails; and pinned.
use Rattle.std.specs.Prelude.{ℕ, zero, suc, ◌+◌, min, Bool, not, List, length, Result, Ok, Err}
use Rattle.roles.specs.Sets.{size_of}
use Rattle.model.specs.declared.Typing.{Typing as Table}
use Rattle.model.specs.Policy.{Policy, State}
use Rattle.model.specs.Typing.{Typing}
use Rattle.model.specs.Meaning.{meaning}
use Rattle.sheets.specs.Turned.{Turned, turned_of}
use Rattle.rules.specs.Tests.{person_passes, assign_passes, revoke_passes, goal_passes}
use Rattle.reading.specs.Policy.{Said, policy_of}
use Rattle.steps.specs.First.{first}
use Rattle.judging.specs.declared.Part.{Part}
use Rattle.judging.specs.declared.Failure.{Failure}

-- ---- the first that fails

-- The number, from 1, of the first element that fails the test; 0 where all pass.
unfoldable pub first_failing : {A : Type 0} → (A → Bool) → List A → ℕ
first_failing test xs = first (λ x. not (test x)) xs

-- ---- what a typing is judged on

-- How many roles there are, the initial holdings, and the rules and goals.
pub record Subject : Type 0 where
  pub roles : ℕ
  pub holdings : State
  pub policy : Policy

unfoldable pub subject_of : Said → Subject
subject_of s = record { roles = length s.roles; holdings = s.holdings; policy = policy_of s }

-- ---- the verdict

-- By what a typing says: the first user whose holdings fail, and the first assign rule, revoke rule and goal that fails.
unfoldable pub first_holding : State → Turned → ℕ
first_holding holdings said = first_failing (person_passes said) holdings

unfoldable pub first_assign : Policy → Turned → ℕ
first_assign policy said = first_failing (assign_passes said) policy.assigns

unfoldable pub first_revoke : Policy → Turned → ℕ
first_revoke policy said = first_failing (revoke_passes said) policy.revokes

unfoldable pub first_goal : Policy → Turned → ℕ
first_goal policy said = first_failing (goal_passes said) policy.goals

-- A verdict: accepted, or the first failure.
abbrev pub TypingVerdict : Type 0
TypingVerdict = Result (Unit {0}) Failure

abbrev pub accepted : TypingVerdict
accepted = Ok tt

abbrev pub unproved : Part → ℕ → TypingVerdict
unproved part number = Err (record { part = part; number = number })

-- The verdict on one part, by the number of its first failure.
unfoldable pub failing_part : Part → ℕ → TypingVerdict
failing_part part zero = accepted
failing_part part (suc number) = unproved part (suc number)

-- A verdict, and where it is accepted the next one.
unfoldable pub and_then : TypingVerdict → TypingVerdict → TypingVerdict
and_then (Ok _) next = next
and_then (Err failure) next = Err failure

-- Assign rules, then revoke rules.
unfoldable pub rules_said : Policy → Turned → TypingVerdict
rules_said policy said = and_then (failing_part Part.Assign (first_assign policy said)) (failing_part Part.Revoke (first_revoke policy said))

-- Holdings, assign rules, revoke rules, then goals.
unfoldable pub all_said : Subject → Turned → TypingVerdict
all_said subject said =
    and_then (failing_part Part.Holdings (first_holding subject.holdings said))
    (and_then (rules_said subject.policy said) (failing_part Part.Goal (first_goal subject.policy said)))

-- The verdict of a typing of so many roles on the rules alone, and on everything.
unfoldable pub judged_rules : (roles : ℕ) → Policy → Table → TypingVerdict
judged_rules roles policy t = rules_said policy (turned_of t roles)

unfoldable pub judged_typing : Subject → Table → TypingVerdict
judged_typing subject t = all_said subject (turned_of t subject.roles)

-- The verdict of a typing on the rules of a policy text alone, and on the whole policy.
unfoldable pub rules_verdict : Said → Table → TypingVerdict
rules_verdict s t = judged_rules (length s.roles) (policy_of s) t

unfoldable pub typing_verdict : Said → Table → TypingVerdict
typing_verdict s t = judged_typing (subject_of s) t

-- The parts by their number in document 01's order.
abbrev pub part_number : Part → ℕ
part_number Part.Holdings = 1
part_number Part.Assign = 2
part_number Part.Revoke = 3
part_number Part.Goal = 4

-- ---- pinned

-- How many names stand in the plus and minus sets of the roles below a number.
unfoldable pub pinned_below : ℕ → Typing → ℕ
pinned_below zero Γ = 0
pinned_below (suc n) Γ = pinned_below n Γ + (size_of (Γ.plus n) + size_of (Γ.minus n))

-- The number of names in all plus and minus sets. There are at most 128 roles.
unfoldable pub pinned_names : Table → ℕ → ℕ
pinned_names t roles = pinned_below (min roles 128) (meaning t)
