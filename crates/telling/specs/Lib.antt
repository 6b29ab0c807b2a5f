-- An answer told: its number, and its values in a lent array.
pub mod Numbers
pub mod NumberLaws
