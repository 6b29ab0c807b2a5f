-- What is read, by its bytes: names, typing texts and trace texts are read exactly when they are spelt so.
pub mod Names
pub mod NamesExact
pub mod Policies
pub mod Lines
pub mod LinesExact
pub mod Sets
pub mod SetsExact
pub mod Typing
pub mod TypingLines
pub mod TypingExact
pub mod Pinned
pub mod PinnedExact
pub mod Numbers
pub mod Trace
pub mod TraceLines
pub mod TraceExact
