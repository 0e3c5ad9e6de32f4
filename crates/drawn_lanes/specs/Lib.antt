pub mod Draws
pub mod Outputs
