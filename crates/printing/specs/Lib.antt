-- The line that `check` prints.
pub mod Line
pub mod LineSteps
pub mod Program
pub mod ProgramExact
