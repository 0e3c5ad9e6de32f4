pub mod CharacterLemmas
pub mod InsideLemmas
