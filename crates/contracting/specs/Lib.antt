-- What stays of a table, written into rows.
pub mod Filling
