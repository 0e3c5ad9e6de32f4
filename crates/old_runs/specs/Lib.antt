pub mod Places
pub mod Files
pub mod Giving
pub mod Lines
pub mod Streams
pub mod Fed
