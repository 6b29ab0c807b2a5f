-- A typing that is written reads back as itself.
pub mod Cuts
pub mod Joined
pub mod Fits
pub mod Standing
pub mod Sets
pub mod Rows
pub mod Back
