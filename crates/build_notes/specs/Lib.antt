-- The notes of failures, as lines.
pub mod Notes
-- What the code lends of them.
pub mod Seen
