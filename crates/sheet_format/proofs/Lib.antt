-- The laws of the sheets.
pub mod Examples
pub mod Marking
pub mod Gates
pub mod Steps
pub mod Sheets
pub mod Writing
pub mod Scan
pub mod Getting
pub mod Puts
pub mod Heads
