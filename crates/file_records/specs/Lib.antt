-- The records of files and sheets by document 01's words, and what writers put into a buffer.
pub mod Records
pub mod Puts
