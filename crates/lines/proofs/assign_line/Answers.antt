-- `assign_line` is judged by the order and by its four fields together.
use Rattle.std.proofs.Common.{rules, ℕ, Err, ◌≡◌, ◌∙◌}
use Rattle.roles.specs.declared.RoleSet.{RoleSet}
use Rattle.model.specs.Policy.{assigning}
use Rattle.lines.specs.declared.Entry.{Entry}
use Rattle.lines.specs.Lines.{judged, asked}
use Rattle.lines.specs.LineLaws.{four_fields, line_read, line_faulty}
use Rattle.lines.proofs.assign_line.Goals as goal

pub returns-in_err-admin : goal.returns-in_err-admin
unfolding judged asked
returns-in_err-admin c =
    let read = four_fields _ _ _ _ _ c.read_name.ensures c.read_set.ensures c.read_set-2.ensures c.read_name-2.ensures c.both-first.ensures c.both-second.ensures c.both-all.ensures in
    let same : c.from_residual.result ≡ Err c.in_err-admin.field-0.0 = search rules in
    λ users. same ∙ line_faulty (λ (p : (ℕ × RoleSet) × (RoleSet × ℕ)). Entry.Assign (assigning p.0.0 p.0.1 p.1.0 p.1.1)) _ _ _ _ c.in_order.ensures read c.in_turn.ensures c.in_err-admin.was

pub returns : goal.returns
unfolding judged asked
returns c =
    let read = four_fields _ _ _ _ _ c.read_name.ensures c.read_set.ensures c.read_set-2.ensures c.read_name-2.ensures c.both-first.ensures c.both-second.ensures c.both-all.ensures in
    λ users. line_read (λ (p : (ℕ × RoleSet) × (RoleSet × ℕ)). Entry.Assign (assigning p.0.0 p.0.1 p.1.0 p.1.1)) _ _ _ _ c.in_order.ensures read c.in_turn.ensures c.in_ok-admin.was
