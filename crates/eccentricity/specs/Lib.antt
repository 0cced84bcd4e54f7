-- What the contracts of the longest counts say.
pub mod Rows
