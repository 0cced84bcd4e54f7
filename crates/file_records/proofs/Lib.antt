-- The laws of file records.
pub mod Records
pub mod Taking
pub mod Writing
pub mod Puts
pub mod Wrote
