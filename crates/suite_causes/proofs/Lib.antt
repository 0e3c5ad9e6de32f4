pub mod AnalysisLemmas
pub mod ProbeLemmas
pub mod RanLemmas
pub mod SearchLemmas
pub mod SuspectLemmas
