-- Laws and theorems about the definitions of specs/.
pub mod Outcomes
pub mod Laws
pub mod AnswerExact
pub mod Means
pub mod Refusals
