pub mod LiveLemmas
pub mod TotalLemmas
pub mod WriterLemmas
