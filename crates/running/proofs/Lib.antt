-- Laws and theorems about the definitions of specs/.
pub mod TraceVerdictExact
pub mod Reached
