-- The laws by which marks are written and counted.
pub mod Bytes
pub mod Counts
