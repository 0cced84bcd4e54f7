-- The laws of the network file.
pub mod Marking
pub mod Steps
pub mod Scan
pub mod Accepting
pub mod Files
pub mod Filling
pub mod Calls
pub mod Writing
pub mod Examples
