-- When a typing is refused, in document 01's words.
use Rattle.std.specs.Prelude.{ℕ, Bool, true, false, List, length}
use Rattle.tables.specs.declared.Name.{Name}
use Rattle.text.specs.Pieces.{split}
use Rattle.walking.specs.Evidence.{EvidenceRefusal}
use Rattle.typings.specs.TypingLines as typing
use Rattle.typings.specs.TypingText.{Typed, untyped}
use Rattle.typings.specs.TypingText as typings

-- Whether a line by its fields is `end`.
unfoldable pub last_row : typing.Line → Bool
last_row (typing.header edition) = false
last_row (typing.row name label plus minus) = false
last_row typing.end = true
last_row typing.other = false

module _ (names : List Name) where
  -- The tests of a typing line, after what the lines above say.
  abbrev pub typing_formed : Typed → List ℕ → Bool
  typing_formed s line = typing.well_formed s.stage (length names) (typing.line_of (split 9 line))

  abbrev pub typing_named : Typed → List ℕ → Bool
  typing_named s line = typing.named s.stage names (typing.line_of (split 9 line))

  abbrev pub typing_last : Typed → List ℕ → Bool
  typing_last s line = last_row (typing.line_of (split 9 line))

  -- No line of a typing has a name above a limit.
  abbrev pub typing_within : Typed → List ℕ → Bool
  typing_within s line = true

  abbrev pub TypingRefusal : (text : List ℕ) (number line : ℕ) → Type 0
  TypingRefusal text = EvidenceRefusal (typings.judge_line names) typing_formed typing_named typing_within typing_last untyped text
