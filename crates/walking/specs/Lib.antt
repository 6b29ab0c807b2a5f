-- How a text is walked line by line, what may be wrong with a line, what it means that it is read or refused, and the tests of a line in turn.
pub mod Turns
pub mod Faults
pub mod FaultLaws
pub mod TurnLaws
pub mod Texts
pub mod TextLaws
pub mod Walk
pub mod FirstLine
pub mod Meaning
pub mod MeaningLaws
pub mod Evidence
pub mod EvidenceLaws
pub mod Kept
