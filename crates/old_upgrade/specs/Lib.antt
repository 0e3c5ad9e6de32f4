pub mod Upgrading
pub mod Recording
