-- What is read is fit to be judged, and so the verdict on a policy text and a typing text is exact.
pub mod PolicySized
pub mod TypingLaid
pub mod Verdicts
