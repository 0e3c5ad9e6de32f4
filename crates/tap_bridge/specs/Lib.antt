pub mod Blanks
pub mod Grammar
pub mod Read
pub mod Ids
pub mod Events
pub mod Kept
pub mod Texts
