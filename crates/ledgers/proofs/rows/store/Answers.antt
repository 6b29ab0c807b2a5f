-- `store` copies the row into its place.
use Rattle.std.proofs.Common.{◌+◌, length, take, drop, List, ℕ, ◌++◌, refl, sym, ap, ◌∙◌, arith}
use Rattle.std.proofs.Math.Seq.{take-length}
use Rattle.std.proofs.lemmas.Slice.{put_mid-paste}
use lib.Seq.{sets-eq}
use Rattle.ledgers.proofs.rows.store.Goals as goal

pub returns : goal.returns
returns c =
    let args = c.args in
    put_mid-paste args.at _ args.ledger.now _ args.row.now (length args.row.now) c.copy_from_slice.ensures.after (omega arith) refl
    ∙ ap (λ (row : List ℕ). take args.at args.ledger.now ++ row ++ drop (args.at + length args.row.now) args.ledger.now) (take-length args.row.now)
    ∙ sym (sets-eq args.row.now args.ledger.now args.at c.requires)
