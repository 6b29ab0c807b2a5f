-- What a line of `sum` or `merge` speaks of.
pub mod Mentions
pub mod MentionLaws
