-- Worked cases from their raw texts: document 01's P1 to P10, P12 with its two typings, each alone and merged, and P13; and traces in which
-- people join and leave (document 02, CR 2).
use Rattle.std.specs.Prelude.{ℕ, List, [], ◌∷◌, ◌++◌, map, ◌≡◌, refl}
use Prim.Native.String.{String}
use Rattle.std.specs.Int.Count.{ones}
use Rattle.roles.specs.Sets.{bit, empty_set, has_role, single_of, union_of, meet_of, with_of, less_of, without_of, same_set, shares_role, includes, size_of}
use Rattle.sheets.specs.Turned.{add_if, add_own, roles_below, sets_below, sets_of, own_below, named_below, turned_of}
use Rattle.closing.specs.Rounds.{round_of, same_pair, rounds_of, close_of}
use Rattle.rules.specs.Tests.{implies, inconsistent_role, person_passes, holds_high, unopposed_target, unneeded_target, target_suits, assign_passes, revoke_passes, goal_passes}
use Rattle.model.specs.Meaning.{meaning}
use Rattle.text.specs.Index.{index_after, index_of}
use Rattle.model.specs.Policy.{without_role, revoked, leaver, departed}
use Rattle.text.specs.Forms.{bytes}
use Rattle.tables.specs.Names.{same_name, name_at}
use Rattle.reading.specs.Policy.{policy_of}
use Rattle.tables.specs.Padded.{padded}
use Rattle.worked.specs.Policies.{reading}
use Rattle.worked.specs.Traces.{tracing}
use Rattle.typings.specs.TypingLines as typing
use Rattle.typings.specs.TypingText as typings
use Rattle.typings.specs.Kind.{is_typing}
use Rattle.steps.specs.First.{first, first_from}
use Rattle.steps.specs.Tests.{may_assign, may_revoke, lowest_goal, own_goal, bad_person, found_at, first_bad}
use Rattle.steps.specs.Traces.{assign_at, revoke_at, possible, after, later, run_of}
use Rattle.judging.specs.Verdict.{first_failing, subject_of, first_holding, first_assign, first_revoke, first_goal, failing_part, and_then, rules_said, all_said, judged_rules, judged_typing, typing_verdict, rules_verdict, pinned_below, pinned_names}
use Rattle.running.specs.Verdict.{last_verdict, ran_verdict, read_verdict, trace_verdict}
use Rattle.summing.specs.Outcome.{answer_in, when_read}
use Rattle.merging.specs.Directory.{same_label, same_person, same_directory}
use Rattle.merging.specs.Merge.{when_same, when_accepted, merge_judged, merge_outcome}
use Rattle.merging.specs.Merge as merge
use Rattle.answering.specs.Answers.{judged_answer, typing_answer, traced_answer, trace_answer, evidence_answer, answer_after, answer_of}
use Rattle.answering.specs.Answers as answer
use Rattle.walking.specs.Turns.{in_turn}

-- opens every definition of judging
unfoldable judging : Unit {0}
unfolding bit empty_set has_role single_of union_of meet_of with_of less_of without_of same_set shares_role includes size_of ones meaning add_if add_own roles_below sets_below sets_of own_below named_below turned_of round_of same_pair rounds_of close_of implies inconsistent_role person_passes holds_high unopposed_target unneeded_target target_suits assign_passes revoke_passes goal_passes first first_from first_failing policy_of subject_of first_holding first_assign first_revoke first_goal failing_part and_then rules_said all_said judged_rules judged_typing typing_verdict pinned_below pinned_names
judging = tt

-- What is asked: check of a policy text and a piece of evidence, or the merge of two policies with a typing each.
pub data Case : Type 0 where
  checks : (policy evidence : List ℕ) → Case
  merges : (policy₁ typing₁ policy₂ typing₂ : List ℕ) → Case

-- Document 01's number of the answer and its values; a merge is lent a buffer of 100 bytes.
unfoldable pub told : Case → List ℕ
told (checks policy evidence) = let a = answer_of policy evidence in answer.number_of a ∷ answer.values_of a
told (merges policy₁ typing₁ policy₂ typing₂) = let a = answer_in (merge_outcome policy₁ typing₁ policy₂ typing₂ 100) in merge.number_of a ∷ merge.values_of a

-- the desk policy, the loose desk, and the loose desk with bob H
abbrev desk : (clearance negative : List ℕ) → List ℕ
desk clearance negative =
    bytes "arbac\t1\nrole\tadm\nrole\tpay\nrole\tbuy\nuser\tann\tH\nuser\tbob\t" ++ clearance ++ bytes "\nhas\tann\tadm\nassign\tadm\t-\t" ++ negative
    ++ bytes "\tpay\nassign\tadm\t-\tpay\tbuy\ngoal\tpay,buy\nend\n"

abbrev strict : List ℕ
strict = desk (bytes "L") (bytes "buy")

abbrev loose : List ℕ
loose = desk (bytes "L") (bytes "-")

-- typing T1 with adm's minus set and pay's label
abbrev t1 : (minus label : List ℕ) → List ℕ
t1 minus label = bytes "typing\t1\nadm\tH\t-\t" ++ minus ++ bytes "\npay\t" ++ label ++ bytes "\t-\tbuy\nbuy\tL\t-\tpay\nend\n"

-- the steps of P6 and of P7
abbrev two_steps : (first second : List ℕ) → List ℕ
two_steps first second = bytes "trace\t1\nassign\tann\t" ++ first ++ bytes "\tbob\nassign\tann\t" ++ second ++ bytes "\tbob\nend\n"

-- the guard pair: its roles and people, the rules of A and of B
abbrev guard : List ℕ → List ℕ
guard rules = bytes "arbac\t1\nrole\tadm\nrole\tx\nrole\ty\nrole\tz\nuser\tann\tH\nuser\tbob\tL\nhas\tann\tadm\n" ++ rules ++ bytes "end\n"

abbrev guard-assigns : List ℕ
guard-assigns = bytes "assign\tadm\tz\t-\tx\nassign\tadm\t-\tz\ty\nassign\tadm\t-\ty\tz\n"

-- typings of A and of B
abbrev typing_a : List ℕ
typing_a = bytes "typing\t1\nadm\tH\t-\t-\nx\tL\tz\t-\ny\tL\t-\tz\nz\tL\t-\ty\nend\n"

abbrev typing_b : List ℕ
typing_b = bytes "typing\t1\nadm\tH\t-\t-\nx\tL\t-\t-\ny\tL\t-\t-\nz\tL\t-\t-\nend\n"

abbrev policy_a : List ℕ
policy_a = guard (guard-assigns ++ bytes "goal\tx,y\n")

abbrev policy_b : List ℕ
policy_b = guard (bytes "revoke\tadm\tz\ngoal\tadm\n")

-- A row: the case's name, what is asked, and document 01's number of the answer with its values. Parts are numbered from 1, holdings
-- first, and so are users.
pub record Row : Type 0 where
  pub name : String
  pub asked : Case
  pub answer : List ℕ

abbrev pub rows : List Row
rows =
    (record { name = "P1"; asked = checks strict (t1 (bytes "-") (bytes "L")); answer = 0 ∷ 3 ∷ 2 ∷ 0 ∷ 1 ∷ 2 ∷ [] })
    ∷ (record { name = "P2"; asked = checks strict (bytes "typing\t1\nadm\tL\t-\t-\npay\tL\t-\t-\nbuy\tL\t-\t-\nend\n"); answer = 2 ∷ 4 ∷ 1 ∷ [] })
    ∷ (record { name = "P3"; asked = checks strict (t1 (bytes "-") (bytes "H")); answer = 2 ∷ 2 ∷ 1 ∷ [] })
    ∷ (record { name = "P4"; asked = checks strict (t1 (bytes "adm") (bytes "L")); answer = 2 ∷ 1 ∷ 1 ∷ [] })
    ∷ (record { name = "P5"; asked = checks loose (t1 (bytes "-") (bytes "L")); answer = 2 ∷ 2 ∷ 1 ∷ [] })
    ∷ (record { name = "P6"; asked = checks loose (two_steps (bytes "2") (bytes "1")); answer = 1 ∷ 2 ∷ 2 ∷ 1 ∷ [] })
    ∷ (record { name = "P7"; asked = checks loose (two_steps (bytes "1") (bytes "2")); answer = 3 ∷ 2 ∷ [] })
    ∷ (record { name = "P8"; asked = checks loose (two_steps (bytes "1") (bytes "1")); answer = 3 ∷ 2 ∷ [] })
    ∷ (record { name = "P9"; asked = checks loose (bytes "trace\t1\nend\n"); answer = 4 ∷ 0 ∷ [] })
    ∷ (record { name = "P10"; asked = checks (desk (bytes "H") (bytes "-")) (two_steps (bytes "2") (bytes "1")); answer = 4 ∷ 2 ∷ [] })
    ∷ (record { name = "P12, A alone"; asked = checks policy_a typing_a; answer = 0 ∷ 4 ∷ 3 ∷ 0 ∷ 1 ∷ 3 ∷ [] })
    ∷ (record { name = "P12, B alone"; asked = checks policy_b typing_b; answer = 0 ∷ 4 ∷ 0 ∷ 1 ∷ 1 ∷ 0 ∷ [] })
    ∷ (record { name = "P12"; asked = merges policy_a typing_a policy_b typing_b; answer = 2 ∷ 3 ∷ 3 ∷ 1 ∷ [] })
    ∷ (record {
      name = "P13";
      asked = checks (guard (guard-assigns ++ bytes "revoke\tadm\tz\ngoal\tx,y\ngoal\tadm\n")) (bytes "trace\t1\nassign\tann\t3\tbob\nassign\tann\t1\tbob\nrevoke\tann\t1\tbob\nassign\tann\t2\tbob\nend\n");
      answer = 1 ∷ 4 ∷ 2 ∷ 1 ∷ [];
    })
    ∷ []

-- opens every definition of answering
unfoldable answering : Unit {0}
unfolding reading judging padded index_after index_of without_role revoked leaver departed name_at in_turn typing.one_field typing.two_fields typing.line_of typing.well_formed typing.named typing.entry typing.judged typing.typing_line typings.untyped typings.added typings.answered typings.judge_line typings.read_typing typings.table_of tracing is_typing may_assign may_revoke lowest_goal own_goal bad_person found_at first_bad assign_at revoke_at possible after later run_of last_verdict ran_verdict read_verdict trace_verdict judged_answer typing_answer traced_answer trace_answer evidence_answer answer_after answer_of rules_verdict same_name same_label same_person same_directory when_read answer_in when_same when_accepted merge_judged merge_outcome told
answering = tt

-- Each row is answered so. P11 is a law by itself (`own_target_passes`).
pub worked_cases : map (λ (r : Row). told r.asked) rows ≡ map (λ (r : Row). r.answer) rows
unfolding answering
worked_cases = refl

-- ---- people join and leave

-- a trace of these lines
abbrev trace_of : List ℕ → List ℕ
trace_of lines = bytes "trace\t1\n" ++ lines ++ bytes "end\n"

-- adm gives adm and pay to anybody, and nobody low may hold pay; ann alone is listed
abbrev handing : List ℕ
handing = bytes "arbac\t1\nrole\tadm\nrole\tpay\nuser\tann\tH\nhas\tann\tadm\nassign\tadm\t-\t-\tadm\nassign\tadm\t-\t-\tpay\ngoal\tpay\nend\n"

abbrev moves : List Row
moves =
    (record { name = "a joiner is given all roles of a goal"; asked = checks loose (trace_of (bytes "join\teve\tL\nassign\tann\t2\teve\nassign\tann\t1\teve\n")); answer = 1 ∷ 3 ∷ 3 ∷ 1 ∷ [] })
    ∷ (record { name = "a joiner of clearance H holds a goal"; asked = checks loose (trace_of (bytes "join\teve\tH\nassign\tann\t2\teve\nassign\tann\t1\teve\n")); answer = 4 ∷ 3 ∷ [] })
    ∷ (record { name = "a grant by a joiner to a joiner"; asked = checks handing (trace_of (bytes "join\teve\tH\nassign\tann\t1\teve\njoin\tdan\tL\nassign\teve\t2\tdan\n")); answer = 1 ∷ 4 ∷ 3 ∷ 1 ∷ [] })
    ∷ (record { name = "two joiners hold a goal"; asked = checks handing (trace_of (bytes "join\teve\tL\njoin\tdan\tL\nassign\tann\t2\tdan\nassign\tann\t2\teve\n")); answer = 1 ∷ 4 ∷ 2 ∷ 1 ∷ [] })
    ∷ (record { name = "who left is nobody"; asked = checks handing (trace_of (bytes "join\teve\tL\nassign\tann\t2\teve\nleave\teve\n")); answer = 4 ∷ 3 ∷ [] })
    ∷ (record { name = "a listed name joins"; asked = checks loose (trace_of (bytes "join\tbob\tL\n")); answer = 3 ∷ 1 ∷ [] })
    ∷ (record { name = "a joined name joins"; asked = checks loose (trace_of (bytes "join\teve\tL\njoin\teve\tL\n")); answer = 3 ∷ 2 ∷ [] })
    ∷ (record { name = "a listed name that left joins"; asked = checks loose (trace_of (bytes "leave\tbob\njoin\tbob\tL\n")); answer = 3 ∷ 2 ∷ [] })
    ∷ (record { name = "a joined name that left joins"; asked = checks loose (trace_of (bytes "join\teve\tL\nleave\teve\njoin\teve\tL\n")); answer = 3 ∷ 3 ∷ [] })
    ∷ (record { name = "who left leaves"; asked = checks loose (trace_of (bytes "leave\tbob\nleave\tbob\n")); answer = 3 ∷ 2 ∷ [] })
    ∷ (record { name = "who left gives"; asked = checks loose (trace_of (bytes "leave\tann\nassign\tann\t1\tbob\n")); answer = 3 ∷ 2 ∷ [] })
    ∷ (record { name = "who left is given"; asked = checks loose (trace_of (bytes "leave\tbob\nassign\tann\t1\tbob\n")); answer = 3 ∷ 2 ∷ [] })
    ∷ (record { name = "a name on the line above its join"; asked = checks loose (trace_of (bytes "assign\tann\t1\teve\njoin\teve\tL\n")); answer = 16 ∷ 2 ∷ [] })
    ∷ (record { name = "a join below a broken step makes its name known"; asked = checks loose (trace_of (bytes "leave\tbob\nleave\tbob\njoin\teve\tL\nassign\tann\t1\teve\n")); answer = 3 ∷ 2 ∷ [] })
    ∷ []

-- Each is answered so.
pub worked_moves : map (λ (r : Row). told r.asked) moves ≡ map (λ (r : Row). r.answer) moves
unfolding answering
worked_moves = refl
