-- Laws and theorems about the definitions of specs/.
pub mod BadLineExact
pub mod AnsweredLaws
