-- `has_line` is judged by the order and by both names together.
use Rattle.std.proofs.Common.{rules, ℕ, Err, ◌≡◌, ◌∙◌}
use Rattle.lines.specs.declared.Entry.{Entry}
use Rattle.lines.specs.Lines.{judged, asked}
use Rattle.lines.specs.LineLaws.{two_names, line_read, line_faulty}
use Rattle.lines.proofs.has_line.Goals as goal

pub returns-in_err-holder : goal.returns-in_err-holder
unfolding judged asked
returns-in_err-holder c =
    let read = two_names _ _ _ _ c.read_name.ensures c.read_name-2.ensures c.both-pair.ensures in
    let same : c.from_residual.result ≡ Err c.in_err-holder.field-0.0 = search rules in
    same ∙ line_faulty (λ (p : ℕ × ℕ). Entry.Has p.0 p.1) _ _ _ _ c.in_order.ensures read c.in_turn.ensures c.in_err-holder.was

pub returns : goal.returns
unfolding judged asked
returns c =
    let read = two_names _ _ _ _ c.read_name.ensures c.read_name-2.ensures c.both-pair.ensures in
    line_read (λ (p : ℕ × ℕ). Entry.Has p.0 p.1) _ _ _ _ c.in_order.ensures read c.in_turn.ensures c.in_ok-holder.was
