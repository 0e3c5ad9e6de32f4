-- What becomes of a file that takes its name at the end.
pub mod Naming
-- Its form in memory.
pub mod InMemory
