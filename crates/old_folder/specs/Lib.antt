pub mod Olds
pub mod Looking
pub mod Converting
