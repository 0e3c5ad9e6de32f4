pub mod FindLemmas
pub mod PartLemmas
pub mod GatherLemmas
pub mod RunLemmas
pub mod LawLemmas
