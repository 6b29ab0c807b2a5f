-- What a ledger gives to a reader of typings: a policy that is read into it, the table of its role names, and a typing over them.
use Rattle.std.specs.Prelude.{ℕ, List, Result, Ok, Err, ◌≡◌}
use Rattle.std.proofs.Common.{sym, ap, ◌∙◌}
use Rattle.tables.specs.declared.Name.{Name}
use Rattle.tables.specs.Names.{rows}
use Rattle.ledgers.specs.LedgerLaws.{roles-rows}
use Rattle.lines.specs.declared.Counts.{Counts}
use Rattle.model.specs.declared.Typing.{Typing as Table}
use Rattle.walking.specs.declared.Refusal.{Refusal}
use Rattle.walking.specs.Texts.{read, refused}
use Rattle.reading.specs.Policy.{read_policy}
use Rattle.reading.specs.Ledger.{ledger_says}
use Rattle.reading.specs.Told.{Told}
use Rattle.typings.specs.TypingText.{read_typing, typing_read}
use Rattle.typings.specs.TypingTold.{TypingTold, typing_told_lem, typing_untold}

-- a policy text that is read
pub policy_read : {text : List ℕ} {c : Counts} {words : List ℕ} → Told text c words → read_policy text ≡ read (ledger_says words c)
policy_read p = p.is ∙ ap read (sym p.says)

module _ (words : List ℕ) (c : Counts) where
  -- the names in the table
  pub names_said : rows c.roles words ≡ (ledger_says words c).roles
  unfolding ledger_says
  names_said = roles-rows words c.roles

  module _ (text : List ℕ) where
    over : {answer : Result Table Refusal} → answer ≡ typing_read (rows c.roles words) text → answer ≡ typing_read (ledger_says words c).roles text
    over given = given ∙ ap (λ (names : List Name). typing_read names text) names_said

    -- a typing: the typing text is read
    pub typing_read_lem : {typing : Table} → Ok typing ≡ typing_read (rows c.roles words) text → TypingTold (ledger_says words c).roles text typing
    typing_read_lem given = typing_told_lem (ledger_says words c).roles text (over given)

    -- a refusal, with its number and line
    pub typing_refused : {refusal : Refusal} → Err refusal ≡ typing_read (rows c.roles words) text → read_typing (ledger_says words c).roles text ≡ refused refusal.number refusal.line
    typing_refused given = typing_untold (ledger_says words c).roles text (over given)
