-- The laws of a table that is ready to be searched.
pub mod Readies
pub mod Rows
