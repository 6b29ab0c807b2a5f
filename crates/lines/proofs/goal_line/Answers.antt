-- `goal_line` is judged by the order and by `-` and its set.
use Rattle.std.proofs.Common.{rules, Bool, not, ◌&&◌, Err, ◌≡◌, ap₂, ◌∙◌}
use Rattle.lines.specs.declared.Entry.{Entry}
use Rattle.lines.specs.Lines.{judged, asked}
use Rattle.fields.specs.Fields.{set_read}
use Rattle.lines.specs.LineLaws.{line_read, line_faulty}
use Rattle.lines.proofs.goal_line.Goals as goal

pub returns-in_err-goal : goal.returns-in_err-goal
unfolding judged asked set_read
returns-in_err-goal c =
    let read = c.read_set-held.ensures in
    let same : c.from_residual.result ≡ Err c.in_err-goal.field-0.0 = search rules in
    λ users. same ∙ line_faulty (Entry.Goal) _ _ _ _ (ap₂ (λ (o dash : Bool). o && not dash) c.in_order.ensures c.same.ensures) read c.in_turn.ensures c.in_err-goal.was

pub returns : goal.returns
unfolding judged asked set_read
returns c =
    let read = c.read_set-held.ensures in
    λ users. line_read (Entry.Goal) _ _ _ _ (ap₂ (λ (o dash : Bool). o && not dash) c.in_order.ensures c.same.ensures) read c.in_turn.ensures c.in_ok-goal.was
