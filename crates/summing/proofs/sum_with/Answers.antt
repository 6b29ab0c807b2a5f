-- `sum_with` reads the policy, the first typing and the second, each refusal at once, adds the typings and hands the sum on.
use Rattle.std.proofs.Common.{sym, ap₂, ◌∙◌, arith}
use Rattle.reading.specs.Told.{told, untold}
use Rattle.summing.specs.Sums.{sum_of}
use Rattle.summing.specs.Layout.{policy_read, names_said, typing_read_lem, typing_refused}
use Rattle.summing.specs.Meeting.{meets_as, meets_leaving}
use Rattle.summing.specs.SumOutcomes.{sum_policy_refused, sum_first_refused, sum_second_refused, sum_read}
use Rattle.summing.proofs.sum_with.Goals as goal

pub returns-in-Err : goal.returns-in-Err
returns-in-Err c = meets_leaving (sum_policy_refused _ _ _ _ (untold c.read_policy.ensures c.in-Err.is))

pub invariant_of-roles : goal.invariant_of-roles
invariant_of-roles c = record { within = omega (arith, (told c.read_policy.ensures c.in-Ok.is).limited.roles, c.requires) }

pub read_typing-requires : goal.read_typing-requires
read_typing-requires c = (told c.read_policy.ensures c.in-Ok.is).limited.roles

pub returns-in-Err-read_typing : goal.returns-in-Err-read_typing
returns-in-Err-read_typing c = let p = policy_read (told c.read_policy.ensures c.in-Ok.is) in
    meets_leaving (sum_first_refused _ _ _ _ p (typing_refused _ _ _ (sym c.in-Err-read_typing.is ∙ c.read_typing.ensures)))

pub read_typing-requires-2 : goal.read_typing-requires-2
read_typing-requires-2 c = (told c.read_policy.ensures c.in-Ok.is).limited.roles

pub returns-in-Err-read_typing-2 : goal.returns-in-Err-read_typing-2
returns-in-Err-read_typing-2 c = let p = policy_read (told c.read_policy.ensures c.in-Ok.is) in
    let t = typing_read_lem _ _ _ (sym c.in-Ok-read_typing.is ∙ c.read_typing.ensures) in
    meets_leaving (sum_second_refused _ _ _ _ p t.is (typing_refused _ _ _ (sym c.in-Err-read_typing-2.is ∙ c.read_typing-2.ensures)))

pub write_sum-requires : goal.write_sum-requires
write_sum-requires c = (told c.read_policy.ensures c.in-Ok.is).limited.roles

pub returns : goal.returns
returns c = let p = policy_read (told c.read_policy.ensures c.in-Ok.is) in
    let t = typing_read_lem _ _ _ (sym c.in-Ok-read_typing.is ∙ c.read_typing.ensures) in
    let u = typing_read_lem _ _ _ (sym c.in-Ok-read_typing-2.is ∙ c.read_typing-2.ensures) in
    meets_as
    (sum_read _ _ _ _ p t.is u.is (c.sum_of.ensures ∙ ap₂ sum_of t.laid u.laid) (names_said _ _))
    c.write_sum.ensures
