-- The sum of two typings, as a table and as a text, asked for alone.
pub mod Sums
pub mod SumLaws
pub mod Summing
pub mod Layout
pub mod Outcome
pub mod Meeting
pub mod Sum
pub mod SumOutcomes
