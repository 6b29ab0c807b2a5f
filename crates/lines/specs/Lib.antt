-- What a line of a policy says, and what is wrong with it.
pub mod Lines
pub mod LineLaws
