pub mod Copying
pub mod Exact
pub mod Looking
