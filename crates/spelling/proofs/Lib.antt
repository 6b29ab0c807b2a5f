-- Laws and theorems about the definitions of specs/.
pub mod TypingSteps
pub mod Members
pub mod TypingLengths
