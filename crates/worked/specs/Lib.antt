-- The worked cases, and a text for each kind of line that is refused, computed from their bytes.
pub mod Policies
pub mod Typings
pub mod Traces
pub mod Cases
