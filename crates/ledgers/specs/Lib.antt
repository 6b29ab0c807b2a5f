-- Policies laid out in words.
pub mod Parts
pub mod PartLaws
pub mod Ledger
pub mod LedgerLaws
pub mod Memory
pub mod MemoryLaws
