-- What the output of a probe's child says.
pub mod Probing
-- How the probes of a search are asked, and what is left at each exit.
pub mod Searching
-- The line that tells what a search found.
pub mod Lines
-- Which tests are searched, and among which candidates.
pub mod Suspects
-- What the outputs of all probes decide.
pub mod Analysis
-- The tests that began to run on a lane of a stored run.
pub mod Ran
