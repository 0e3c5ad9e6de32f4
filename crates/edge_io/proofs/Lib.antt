pub mod CausesLemmas
pub mod BytesLemmas
pub mod Going
pub mod Passing
pub mod KeptLemmas
pub mod NamesLemmas
pub mod FilesLemmas
