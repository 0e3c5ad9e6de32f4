-- What words are, as a list.
pub mod Items
-- How the code keeps them.
pub mod Code
