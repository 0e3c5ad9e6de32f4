pub mod FromLemmas
pub mod UpgradeLemmas
pub mod CopyLemmas
