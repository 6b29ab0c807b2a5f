-- What a typing says with its sets turned round, how it stands in words, and the laws of both.
pub mod Turned
pub mod Words
pub mod Places
pub mod Joining
pub mod Noting
pub mod Members
pub mod Whole
pub mod Laying
