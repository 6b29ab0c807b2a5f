-- A line made field after field, and shown in a lent buffer.
pub mod Fields
pub mod Steps
pub mod Showing
