pub mod From
pub mod Faces
