-- A filter whose output becomes a file.
pub mod Filed
