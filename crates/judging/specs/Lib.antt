-- The verdict on a typing, and that it is exact.
pub mod Verdict
pub mod First
pub mod Failures
pub mod Failing
pub mod Order
pub mod TypingVerdictExact
