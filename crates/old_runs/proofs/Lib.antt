pub mod PlaceLemmas
pub mod HeardLemmas
pub mod CutLemmas
pub mod PacketLemmas
pub mod LineLemmas
pub mod StreamLemmas
pub mod FileLemmas
