pub mod Callers
pub mod Outputs
pub mod Packets
pub mod Passes
pub mod Rule
pub mod Runs
pub mod Works
