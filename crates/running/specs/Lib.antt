-- The verdict on a trace, and that it is exact.
pub mod Verdict
pub mod Range
pub mod Looking
pub mod Trying
pub mod Joining
pub mod Says
pub mod Named
