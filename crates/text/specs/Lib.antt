-- How bytes fall into pieces, the form of each piece, eight bytes at a time, and a law of lists.
pub mod Lists
pub mod Index
pub mod Pieces
pub mod PieceLaws
pub mod Seeking
pub mod Begins
pub mod Repeats
pub mod Forms
pub mod FormLaws
pub mod Eights
