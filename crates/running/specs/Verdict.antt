-- The verdict on a trace, as document 01's table of verdicts has it, and document 02, CR 2.
use Rattle.std.specs.Prelude.{ℕ, ◌-◌, List, Option, Some, None, Result, Ok, Err, length}
use Rattle.roles.specs.declared.RoleSet.{RoleSet}
use Rattle.model.specs.Policy.{State}
use Rattle.tables.specs.declared.Name.{Name}
use Rattle.tables.specs.Names.{name_at}
use Rattle.walking.specs.declared.Refusal.{Refusal}
use Rattle.walking.specs.Texts.{Reading, read, refused}
use Rattle.reading.specs.Policy.{Said, policy_of}
use Rattle.steps.specs.declared.Found.{Found}
use Rattle.steps.specs.Tests.{first_bad}
use Rattle.steps.specs.Traces.{Ran, broken, ran, run_of}
use Rattle.traces.specs.TraceText.{Traced, read_trace}
use Rattle.running.specs.declared.TraceVerdict.{TraceVerdict}

-- All steps are good: SHORT where nobody is found in the last state, and else ATTACKED, with the user's place from 0, the name that stands
-- there among those that are known, and the goal's number from 1.
unfoldable pub last_verdict : (steps : ℕ) → List Name → Option Found → TraceVerdict
last_verdict steps names None = TraceVerdict.Short steps
last_verdict steps names (Some found) = TraceVerdict.Attacked steps (found.user - 1) (name_at names (found.user - 1)) found.goal

-- The steps have been tried: BROKEN with the first that is not possible, or the last state decides.
unfoldable pub ran_verdict : (steps : ℕ) → List Name → List RoleSet → Ran → TraceVerdict
ran_verdict steps names goals (broken number) = TraceVerdict.Broken number
ran_verdict steps names goals (ran last) = last_verdict steps names (first_bad last goals)

-- The text is refused with a number, at a line.
abbrev pub trace_refused : (number line : ℕ) → Result TraceVerdict Refusal
trace_refused number line = Err (record { number = number; line = line })

-- The text has been read: it is refused, or its steps are tried from the initial holdings.
unfoldable pub read_verdict : Said → Reading Traced → Result TraceVerdict Refusal
read_verdict s (refused number line) = trace_refused number line
read_verdict s (read t) = Ok (ran_verdict (length t.steps) t.names s.goals (run_of (policy_of s) s.holdings t.steps))

-- The verdict on a trace text over what a policy text says, or its refusal.
unfoldable pub trace_verdict : Said → List ℕ → Result TraceVerdict Refusal
trace_verdict s text = read_verdict s (read_trace (length s.assigns) (length s.revokes) s.users text)

-- ---- as a program keeps it

-- the number of the first step that is not possible, where there is one; and the state
unfoldable pub so_far : Option ℕ → State → Ran
so_far None σ = ran σ
so_far (Some number) σ = broken number

unfoldable pub end_verdict : (broken : Option ℕ) (steps : ℕ) → List Name → Option Found → TraceVerdict
end_verdict None steps names found = last_verdict steps names found
end_verdict (Some number) steps names found = TraceVerdict.Broken number
