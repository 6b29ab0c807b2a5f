-- How a name is packed into words, how names stand in a table and where a name is found, and lists laid out in arrays.
pub mod Names
pub mod Listed
pub mod NameLaws
pub mod Finding
pub mod Padded
pub mod Storing
pub mod NamedRules
pub mod Named
