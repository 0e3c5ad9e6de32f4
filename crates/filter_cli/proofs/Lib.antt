pub mod PipeLemmas
pub mod PumpLemmas
pub mod NotedLemmas
pub mod EventLemmas
pub mod LooseLemmas
pub mod StoredLemmas
pub mod AttachLemmas
pub mod BelowLemmas
pub mod ExportLemmas
pub mod NotedPrefix
pub mod FitLemmas
pub mod EventTextLemmas
pub mod WordLemmas
pub mod Prefixes
pub mod ChainLemmas
pub mod BadLemmas
pub mod StatusLemmas
pub mod FileLemmas
mod Ways
mod Courses
pub mod UnreadLemmas
pub mod EndLemmas
pub mod WritingLaws
pub mod PromiseLemmas
pub mod TallyLemmas
pub mod TapLemmas
pub mod NewlineLemmas
pub mod TapPrefix
pub mod TapRowLemmas
pub mod TraceLemmas
pub mod TapTextLemmas
pub mod TaggedLemmas
pub mod V1Lemmas
pub mod V1Prefix
pub mod V1TextLemmas
pub mod SeparatorLemmas
pub mod JunitCaseLemmas
mod LongLemmas
