-- A policy that is written reads back as itself.
pub mod Fields
pub mod Names
pub mod Lines
pub mod Runs
pub mod Goals
pub mod Holdings
pub mod Blocks
pub mod Back
