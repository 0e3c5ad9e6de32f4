pub mod Characters
pub mod Seconds
pub mod Documents
pub mod Reading
pub mod Told
