-- What a trace text is read into, and which line is refused.
pub mod TraceLines
pub mod TraceLineLaws
pub mod TraceText
pub mod TraceWalk
pub mod TraceRefusals
pub mod TraceRefusalExact
