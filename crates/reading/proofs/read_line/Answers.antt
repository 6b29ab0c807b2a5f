-- `read_line` takes the answer of any line, and malformed where its entry stands above already.
use Rattle.std.proofs.Common.{rules, Bool, true, false, cond, Ok, Err, ◌≡◌, sym, ap, ◌∙◌}
use Rattle.walking.specs.declared.Fault.{Fault}
use Rattle.reading.specs.LedgerLaws.{line_bad, line_fits, line_once}
use Rattle.reading.proofs.read_line.Goals as goal

pub returns-in_err-entry : goal.returns-in_err-entry
returns-in_err-entry c = let same : c.from_residual.result ≡ Err c.in_err-entry.field-0.0 = search rules in
    same ∙ line_bad c.args.ledger.now c.args.c c.args.line.now c.read_line.ensures c.in_err-entry.was

pub is_new-requires : goal.is_new-requires
is_new-requires c = (c.requires.1, c.requires.2, line_fits c.args.ledger.now c.args.c c.args.line.now c.read_line.ensures c.in_ok-entry.was)

pub returns-in_err-pass : goal.returns-in_err-pass
returns-in_err-pass c =
    let old : c.is_new.result ≡ false = search rules in
    let same : c.from_residual-in_err-pass.result ≡ Err Fault.Malformed = search rules in
    same ∙ sym (ap (λ (b : Bool). cond b (Ok c.in_ok-entry.entry) (Err Fault.Malformed)) old)
    ∙ line_once c.args.ledger.now c.args.c c.args.line.now c.read_line.ensures c.in_ok-entry.was c.is_new.ensures

pub returns : goal.returns
returns c =
    let new : c.is_new.result ≡ true = search rules in
    sym (ap (λ (b : Bool). cond b (Ok c.in_ok-entry.entry) (Err Fault.Malformed)) new)
    ∙ line_once c.args.ledger.now c.args.c c.args.line.now c.read_line.ensures c.in_ok-entry.was c.is_new.ensures
