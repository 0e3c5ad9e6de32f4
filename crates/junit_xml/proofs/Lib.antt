pub mod Cuts
pub mod CharacterLemmas
pub mod NumberLemmas
pub mod NameLemmas
pub mod TextLemmas
pub mod TagLemmas
pub mod LawLemmas
pub mod XmlLemmas
pub mod WritingLemmas
pub mod AppendLemmas
mod RowChecks
