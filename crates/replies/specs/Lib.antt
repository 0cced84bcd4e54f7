-- The planner's answers as document 01's replies, and what writing them down leaves.
pub mod Answers
pub mod Reports
