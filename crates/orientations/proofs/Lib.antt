-- The laws of partial orientations.
pub mod Least
pub mod Goings
pub mod Nexts
pub mod Parts
