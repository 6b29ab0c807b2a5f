-- The merge of judged policies.
pub mod Directory
pub mod Comparing
pub mod DirectoryLaws
pub mod Merge
pub mod Halves
pub mod MergeOutcomes
