-- The definitions that the contracts cite, and the laws that every other crate cites in place of them.
pub mod Sets
pub mod Words
pub mod Members
pub mod MemberLaws
pub mod Joined
pub mod Taking
