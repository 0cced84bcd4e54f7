-- The rows of a table, gone over side by side.
pub mod Rows
