-- One step of a run and whether a state is bad, as tests; runs of whole traces; and that each is exact.
pub mod First
pub mod Tests
pub mod Traces
pub mod Places
pub mod Runs
pub mod StepExact
pub mod Bad
