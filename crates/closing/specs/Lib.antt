-- The closure of a pair of role sets by rounds, and that it is the least pair that document 01 asks for.
pub mod Rounds
pub mod Steps
pub mod Fresh
pub mod Apart
pub mod News
pub mod Counting
pub mod Clauses
pub mod Growth
pub mod Least
pub mod Changes
pub mod Tests
