-- What a line answers, and what its answer leads to.
use Rattle.std.specs.Prelude.{ℕ, Bool, true, false, cond, List, [], ◌∷◌, ◌++◌, Result, Ok, Err, ◌≡◌, refl, eqb}
use Rattle.std.proofs.Common.{true≢false}
use Rattle.model.specs.Policy.{State}
use Rattle.text.specs.Pieces.{split}
use Rattle.walking.specs.declared.Fault.{Fault}
use Rattle.walking.specs.Faults.{policy_number}
use Rattle.walking.specs.Turns.{test, in_turn}
use Rattle.walking.specs.TurnLaws.{turn_good}
use Rattle.walking.specs.Texts.{Judged, goes, ends, bad}
use Rattle.walking.specs.TextLaws.{goes_one, goes_bad, goes_ends}
use Rattle.lines.specs.declared.Entry.{Entry}
use Rattle.lines.specs.Lines.{comes_to, tests, judged, policy_line, line_of, end_kind}
use Rattle.lines.specs.LineLaws.{GoodLine, line_good}
use Rattle.reading.specs.Policy.{Said, counts_of, kind_of, added, is_new, leads, line_asked, line_tests, judge_line}

-- What a line answers over what the lines above say: what any line answers, and malformed where it is a has pair that stands above already.
unfoldable pub once : State → Result Entry Fault → Result Entry Fault
once σ (Ok e) = cond (is_new σ e) (Ok e) (Err Fault.Malformed)
once σ (Err fault) = Err fault

unfoldable pub line_answer : Said → List ℕ → Result Entry Fault
line_answer s line = once s.holdings (policy_line (counts_of s) s.roles s.users line)

-- What an answer leads to.
unfoldable pub leads_to : Said → Result Entry Fault → Judged Said
leads_to s (Ok e) = leads s e
leads_to s (Err fault) = bad (policy_number fault)

-- A line leads where its answer leads.
pub judge_answered : (s : Said) (line : List ℕ) → judge_line s line ≡ leads_to s (line_answer s line)
unfolding judge_line line_tests line_asked leads_to line_answer once policy_line judged comes_to in_turn tests
judge_answered s line = let a = line_asked s line in go a.formed a.within a.known (is_new s.holdings a.says) refl
  where
    e : Entry
    e = (line_asked s line).says

    go : (formed within known new : Bool) → is_new s.holdings e ≡ new
        → in_turn bad (tests formed within known ++ (test 11 new ∷ [])) (leads s e) ≡ leads_to s (once s.holdings (comes_to formed within known e))
    go true true true true is = rw is
    go true true true false is = rw is
    go true true false new is = refl
    go true false known new is = refl
    go false within known new is = refl

-- A line that leads on: it is good and new, is not `end`, and adds what it says.
pub record Leads (s t : Said) (line : List ℕ) : Type 0 where
  pub good : GoodLine (counts_of s) s.roles s.users (line_of (split 9 line)) (line_asked s line).says
  pub new : is_new s.holdings (line_asked s line).says ≡ true
  pub adds : added s (line_asked s line).says ≡ t

pub line_leads : (s t : Said) (line : List ℕ) → judge_line s line ≡ goes t → Leads s t line
unfolding judge_line line_tests line_asked tests leads
line_leads s t line is =
    let a = line_asked s line in
    let (passed, on) = turn_good bad (line_tests s line) (leads s a.says) (goes t) (λ k e. goes_bad e) is in
    record { good = record { formed = passed.0; within = passed.1.0; known = passed.1.1.0; says = refl }; new = passed.1.1.1.0; adds = onward (eqb (kind_of a.says) end_kind) on }
  where
    onward : (b : Bool) → cond b ends (goes (added s (line_asked s line).says)) ≡ goes t → added s (line_asked s line).says ≡ t
    onward true e = absurd (goes_ends e)
    onward false e = goes_one e

-- An answer that is good is that of a line that is good.
pub answer_good : (s : Said) (line : List ℕ) {e : Entry} → line_answer s line ≡ Ok e → GoodLine (counts_of s) s.roles s.users (line_of (split 9 line)) e
unfolding line_answer once
answer_good s line {e} is = line_good (counts_of s) s.roles s.users line (go (policy_line (counts_of s) s.roles s.users line) is)
  where
    go : (answer : Result Entry Fault) → once s.holdings answer ≡ Ok e → answer ≡ Ok e
    go (Ok x) good = new (is_new s.holdings x) good
      where
        new : (b : Bool) → ◌≡◌ {A = Result Entry Fault} (cond b (Ok x) (Err Fault.Malformed)) (Ok e) → ◌≡◌ {A = Result Entry Fault} (Ok x) (Ok e)
        new true same = same
        new false other = absurd (true≢false (cc))
    go (Err fault) other = absurd (true≢false (cc))
