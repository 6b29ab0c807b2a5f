-- The spelling of a policy, asked for alone.
pub mod Spell
pub mod SpellOutcomes
pub mod SpellRules
pub mod SpellExact
