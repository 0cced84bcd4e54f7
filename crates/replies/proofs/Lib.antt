-- The laws of answers and of writing a reply down.
pub mod Answers
pub mod Reported
pub mod Refusals
