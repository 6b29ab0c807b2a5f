-- Laws and theorems about the definitions of specs/.
pub mod Closure
pub mod States
pub mod Gone
pub mod Safety
pub mod Sum
pub mod Witness
