pub mod FolderLemmas
pub mod OutputLemmas
