-- The refusal of two texts, and where their bad line stands.
pub mod Place
pub mod PlaceLaws
pub mod BadLines
pub mod LinePlaces
pub mod LineNumbers
pub mod Answered
