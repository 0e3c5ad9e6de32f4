pub mod FileLemmas
pub mod RunLemmas
pub mod FailingLemmas
pub mod WholeLemmas
pub mod SoundLemmas
