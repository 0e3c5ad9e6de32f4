pub mod Keeping
pub mod Released
pub mod Sifted
pub mod PacketSifted
pub mod Tagging
