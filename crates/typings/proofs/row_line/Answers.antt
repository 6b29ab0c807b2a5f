-- `row_line` is judged by its place, its name, its label, both sets together and its role.
use Rattle.std.proofs.Common.{refl, sym, ap, ◌∙◌, rules}
use Rattle.tables.specs.Names.{found_in}
use Rattle.tables.specs.NameLaws.{rows_length}
use Rattle.walking.specs.declared.Fault.{Fault}
use Rattle.typings.specs.TypingLineLaws.{row_judged, row_says, test_fails, test_passes}
use Rattle.typings.proofs.row_line.Goals as goal

pub returns-in_err-pass : goal.returns-in_err-pass
returns-in_err-pass c =
    row_judged _ _ _ _ _ _ (rows_length _ _) c.is_name.ensures c.is_label.ensures refl refl refl refl refl refl
    (search rules ∙ test_fails Fault.Malformed _ _ (sym c.in_err-pass.was ∙ c.pass.ensures))

pub returns-in_err-plus : goal.returns-in_err-plus
returns-in_err-plus c =
    row_judged _ _ _ _ _ _ (rows_length _ _) c.is_name.ensures c.is_label.ensures c.read_set.ensures c.read_set-2.ensures c.both.ensures refl refl refl
    (search rules ∙ ap (row_says _ _) (sym c.in_err-plus.was) ∙ test_passes Fault.Malformed _ _ (sym c.in_ok-pass.was ∙ c.pass.ensures))

pub returns-in_err-pass-2 : goal.returns-in_err-pass-2
returns-in_err-pass-2 c =
    row_judged _ _ _ _ _ _ (rows_length _ _) c.is_name.ensures c.is_label.ensures c.read_set.ensures c.read_set-2.ensures c.both.ensures (c.find-place.ensures ∙ ap (found_in _) c.pack.ensures) c.eq.ensures refl
    (search rules ∙ test_fails Fault.Undeclared _ _ (sym c.in_err-pass-2.was ∙ c.pass-2.ensures) ∙ ap (row_says _ _) (sym c.in_ok-plus.was) ∙ test_passes Fault.Malformed _ _ (sym c.in_ok-pass.was ∙ c.pass.ensures))

pub returns : goal.returns
returns c =
    row_judged _ _ _ _ _ _ (rows_length _ _) c.is_name.ensures c.is_label.ensures c.read_set.ensures c.read_set-2.ensures c.both.ensures (c.find-place.ensures ∙ ap (found_in _) c.pack.ensures) c.eq.ensures c.same.ensures
    (test_passes Fault.Undeclared _ _ (sym c.in_ok-pass-2.was ∙ c.pass-2.ensures) ∙ ap (row_says _ _) (sym c.in_ok-plus.was) ∙ test_passes Fault.Malformed _ _ (sym c.in_ok-pass.was ∙ c.pass.ensures))
