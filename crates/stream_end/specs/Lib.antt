pub mod Character
pub mod Inside
