-- Which words ask for a text.
pub mod Asking
-- Which words name the folder to work in.
pub mod Folder
-- How the code keeps the second.
pub mod Parting
-- Which words name the file that a filter writes.
pub mod Output
-- How the code keeps these.
pub mod PartingOutput
