-- The kind of a piece of evidence, by its first line (document 01, "The texts").
use Rattle.std.specs.Prelude.{ℕ, Bool, List}
use Rattle.text.specs.Index.{index_of}
use Rattle.text.specs.Forms.{bytes}
use Rattle.text.specs.Pieces.{part, same_bytes}

-- Evidence whose first line is a typing's header is a typing; any other is read as a trace.
unfoldable pub is_typing : List ℕ → Bool
is_typing text = same_bytes (part text 0 (index_of 10 text)) (bytes "typing\t1")
