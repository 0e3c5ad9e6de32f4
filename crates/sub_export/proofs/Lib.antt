pub mod JobLemmas
pub mod ReadLemmas
mod RowChecks
