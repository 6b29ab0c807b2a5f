-- `revoke_line` is judged by the order and by both names together.
use Rattle.std.proofs.Common.{rules, ℕ, Err, ◌≡◌, ◌∙◌}
use Rattle.lines.specs.declared.Entry.{Entry}
use Rattle.lines.specs.Lines.{judged, asked}
use Rattle.lines.specs.LineLaws.{two_names, line_read, line_faulty}
use Rattle.lines.proofs.revoke_line.Goals as goal

pub returns-in_err-admin : goal.returns-in_err-admin
unfolding judged asked
returns-in_err-admin c =
    let read = two_names _ _ _ _ c.read_name.ensures c.read_name-2.ensures c.both-names.ensures in
    let same : c.from_residual.result ≡ Err c.in_err-admin.field-0.0 = search rules in
    λ users. same ∙ line_faulty (λ (p : ℕ × ℕ). Entry.Revoke (record { admin = p.0; target = p.1 })) _ _ _ _ c.in_order.ensures read c.in_turn.ensures c.in_err-admin.was

pub returns : goal.returns
unfolding judged asked
returns c =
    let read = two_names _ _ _ _ c.read_name.ensures c.read_name-2.ensures c.both-names.ensures in
    λ users. line_read (λ (p : ℕ × ℕ). Entry.Revoke (record { admin = p.0; target = p.1 })) _ _ _ _ c.in_order.ensures read c.in_turn.ensures c.in_ok-admin.was
