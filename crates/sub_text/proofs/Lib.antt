pub mod SlowLemmas
