-- The reach table as rows of numbers, the bytes that its ways make, and the answer to a table.
pub mod Rows
pub mod Bytes
pub mod Answers
