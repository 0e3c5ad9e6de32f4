pub mod Adding
pub mod EveryStep
pub mod Going
pub mod Lists
pub mod Merges
pub mod OutputLemmas
pub mod Steps
pub mod Told
