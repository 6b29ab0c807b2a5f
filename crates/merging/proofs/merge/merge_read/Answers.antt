-- `merge_read` compares the directories, then judges four times, and writes the sum where all pass.
use Rattle.std.proofs.Common.{sym, ap, ◌∙◌, arith}
use Rattle.reading.specs.LedgerLaws.{ledger_counts}
use Rattle.summing.specs.Outcome.{leaves}
use Rattle.summing.specs.Layout.{names_said}
use Rattle.summing.specs.Meeting.{meets_as, meets_leaving}
use Rattle.merging.specs.Merge.{merge_counted}
use Rattle.merging.specs.MergeOutcomes.{directories_differ, fails_one, fails_two, fails_three, fails_four, all_accepted}
use Rattle.merging.proofs.merge.merge_read.Goals as goal

pub returns-then-not-same_directory : goal.returns-then-not-same_directory
returns-then-not-same_directory c = meets_leaving (directories_differ _ _ _ _ _ (sym c.same_directory.ensures ∙ c.if-not-same_directory.true) ∙ ap leaves (sym c.of_none.ensures))

pub returns-in-Err : goal.returns-in-Err
returns-in-Err c = meets_leaving (fails_one _ _ _ _ _ (sym c.same_directory.ensures ∙ c.if-not-same_directory.false) (sym c.judge_typing.ensures ∙ c.in-Err.is))

pub returns-in-Err-judge_typing : goal.returns-in-Err-judge_typing
returns-in-Err-judge_typing c = meets_leaving (fails_two _ _ _ _ _ (sym c.same_directory.ensures ∙ c.if-not-same_directory.false) (sym c.judge_typing.ensures ∙ c.in_default.is) (sym c.judge_typing-2.ensures ∙ c.in-Err-judge_typing.is))

pub returns-in-Err-judge_rules : goal.returns-in-Err-judge_rules
returns-in-Err-judge_rules c = meets_leaving (fails_three _ _ _ _ _ (sym c.same_directory.ensures ∙ c.if-not-same_directory.false) (sym c.judge_typing.ensures ∙ c.in_default.is) (sym c.judge_typing-2.ensures ∙ c.in_default-judge_typing.is) (sym c.judge_rules.ensures ∙ c.in-Err-judge_rules.is))

pub returns-in-Err-judge_rules-2 : goal.returns-in-Err-judge_rules-2
returns-in-Err-judge_rules-2 c = meets_leaving (fails_four _ _ _ _ _ (sym c.same_directory.ensures ∙ c.if-not-same_directory.false) (sym c.judge_typing.ensures ∙ c.in_default.is) (sym c.judge_typing-2.ensures ∙ c.in_default-judge_typing.is) (sym c.judge_rules.ensures ∙ c.in_default-judge_rules.is) (sym c.judge_rules-2.ensures ∙ c.in-Err-judge_rules-2.is))

pub write_joint-requires : goal.write_joint-requires
write_joint-requires c = (c.requires.1.roles, c.requires.1, c.requires.3)

pub invariant_of-roles : goal.invariant_of-roles
invariant_of-roles c = record { within = omega (arith, c.requires.0, c.requires.1.roles) }

pub returns : goal.returns
returns c = meets_as
    (all_accepted _ _ _ _ _ (sym c.same_directory.ensures ∙ c.if-not-same_directory.false) (sym c.judge_typing.ensures ∙ c.in_default.is) (sym c.judge_typing-2.ensures ∙ c.in_default-judge_typing.is) (sym c.judge_rules.ensures ∙ c.in_default-judge_rules.is) (sym c.judge_rules-2.ensures ∙ c.in_default-judge_rules-2.is) ∙ ap (merge_counted _ _ _) (sym c.sum_of.ensures))
    (c.write_joint.ensures _ _ (sym (ledger_counts c.args.one.now c.args.p)) (sym (ledger_counts c.args.two.now c.args.q)) (names_said c.args.one.now c.args.p))
