pub mod TakesLemmas
