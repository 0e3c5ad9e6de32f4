-- Which parts of tests failed.
pub mod Parts
-- What the last failure of an id is.
pub mod Last
-- What is printed of it.
pub mod Texts
-- What is gathered of a run that is read.
pub mod Gathering
-- What a search that goes from the last run back has found.
pub mod Looking
