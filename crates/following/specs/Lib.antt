-- The steps of a trace as uses of a policy's rules, and that going through a trace is exact against them.
pub mod Follows
