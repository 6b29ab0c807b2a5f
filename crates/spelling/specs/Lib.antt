-- A typing's text, how it grows as it is written, and how long it is.
pub mod TypingText
pub mod Growth
pub mod TypingPieces
pub mod NamesJoined
