-- How bytes, names and numbers are written into a lent buffer.
pub mod Written
pub mod Spelling
