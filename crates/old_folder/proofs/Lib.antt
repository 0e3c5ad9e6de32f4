pub mod DigitLemmas
pub mod CountLemmas
pub mod LayoutLemmas
pub mod BaseFileLemmas
pub mod OldLemmas
