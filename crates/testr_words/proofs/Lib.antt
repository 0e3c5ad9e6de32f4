pub mod WordsLemmas
pub mod ShardLemmas
pub mod ValueLemmas
pub mod ProjectLemmas
