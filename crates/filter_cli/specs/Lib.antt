-- The loop that all filters go through.
pub mod Pipe
pub mod Pumping
pub mod Script
pub mod ScriptLaws
-- Filters that go by the notes of a stream.
pub mod Plan
pub mod Noted
pub mod PlanLaws
-- The filters.
pub mod Events
pub mod Ls
pub mod Stats
pub mod Junit
pub mod Tracing
pub mod Filtering
pub mod Tagging
pub mod Tally
-- The words.
pub mod Tools
pub mod Selecting
pub mod Retagging
pub mod Patterns
pub mod Letters
pub mod Words
-- The top call.
pub mod Steps
pub mod Outside
pub mod FileReads
pub mod Streams
pub mod Telling
pub mod Refusals
pub mod Program
pub mod Promises
-- The Test Anything Protocol.
pub mod Lines
pub mod LineLaws
pub mod Tap
pub mod Tapped
pub mod TapLaws
pub mod TapRows
-- A text in front of what a filter writes.
pub mod Headed
pub mod HeadedLaws
-- The records of tests.
pub mod Exporting
-- Events from words.
pub mod Attached
pub mod AttachedLaws
-- Version 1.
pub mod V1
pub mod V1Fed
pub mod V1Laws
pub mod V1Parts
pub mod JunitCases
