-- A policy as a text.
pub mod PolicyText
pub mod BlockLaws
