-- Names and sets against a table, and how a line falls into fields.
pub mod Fields
pub mod FieldLaws
pub mod Sets
pub mod Insides
pub mod Roles
pub mod Cutting
