-- The names of a field by the places where they end, the tree in which they are looked up, and the blocks in which they are taken.
pub mod Names
pub mod Plain
pub mod Heads
pub mod Tree
pub mod Walk
pub mod Blocks
pub mod Answers
pub mod Filling
