-- How long a policy's spelling is.
pub mod Sums
pub mod Sets
pub mod Lines
pub mod Blocks
pub mod Growth
pub mod Phases
pub mod Lengths
