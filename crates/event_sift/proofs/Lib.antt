pub mod HeldLemmas
pub mod KeepingLemmas
pub mod PacketLemmas
pub mod PartLemmas
pub mod SiftLemmas
pub mod TagLemmas
