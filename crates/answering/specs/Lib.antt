-- What is answered to two texts, and what the answers mean.
pub mod Answers
pub mod CheckRules
pub mod Kinds
