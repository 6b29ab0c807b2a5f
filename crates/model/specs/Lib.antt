-- What a reader must believe about policies and typings, and what is proved of it.
pub mod Policy
pub mod Sized
pub mod Typing
pub mod Meaning
