-- What the command `spell` makes.
pub mod Note
pub mod NoteKinds
pub mod NoteExact
