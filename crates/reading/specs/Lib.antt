-- What a policy text is read into, and when it is refused.
pub mod Policy
pub mod Ledger
pub mod Read
pub mod Answer
pub mod SoundRules
pub mod Sound
pub mod LedgerLaws
pub mod PolicyRefusals
pub mod PolicyExact
pub mod Header
pub mod Entering
pub mod Between
pub mod Told
