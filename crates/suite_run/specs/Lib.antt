pub mod Aloud
pub mod Closing
pub mod Outputs
pub mod Recording
pub mod Starting
pub mod Summed
pub mod Halves
pub mod NoneLost
