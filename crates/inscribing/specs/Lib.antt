-- The line of an entry of a policy.
pub mod LineText
pub mod Adding
pub mod LineLaws
