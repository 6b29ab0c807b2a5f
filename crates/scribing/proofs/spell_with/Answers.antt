-- `spell_with` reads the policy, a refusal at once, and writes its text where there is room for as many bytes as were read.
use Rattle.std.proofs.Common.{Err, ◌≡◌, sym, ap, ◌∙◌, arith, rules}
use Rattle.reading.specs.Told.{told, untold}
use Rattle.measuring.specs.Lengths.{spelled_length}
use Rattle.summing.specs.Outcome.{leaves}
use Rattle.summing.specs.Layout.{policy_read}
use Rattle.summing.specs.Meeting.{meets_leaving}
use Rattle.scribing.specs.SpellOutcomes.{spell_refused, spell_long, spell_meets}
use Rattle.scribing.proofs.spell_with.Goals as goal

pub returns-in_err-counts : goal.returns-in_err-counts
returns-in_err-counts c = let same : c.from_residual.result ≡ Err c.in_err-counts.field-0.0 = search rules in
    meets_leaving (spell_refused _ _ (untold c.read_policy.ensures c.in_err-counts.was) ∙ ap leaves (sym same))

pub returns-then-out-policy : goal.returns-then-out-policy
returns-then-out-policy c = meets_leaving (spell_long _ _ (policy_read (told c.read_policy.ensures c.in_ok-counts.was)) c.if-out-policy.true)

pub write_policy-requires : goal.write_policy-requires
write_policy-requires c = let so = told c.read_policy.ensures c.in_ok-counts.was in
    (omega (arith, c.requires), so.limited, omega (arith, spelled_length _ (policy_read so), c.if-out-policy.false))

pub returns : goal.returns
returns c = spell_meets _ _ (policy_read (told c.read_policy.ensures c.in_ok-counts.was)) c.if-out-policy.false c.write_policy.ensures
