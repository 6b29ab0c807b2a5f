-- What a typing text is read into, and which line is refused.
pub mod Kind
pub mod FirstLine
pub mod TypingLines
pub mod TypingLineLaws
pub mod TypingText
pub mod TypingReached
pub mod TypingRefusals
pub mod TypingRefusalExact
pub mod TypingTold
