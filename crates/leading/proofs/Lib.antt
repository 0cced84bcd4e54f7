-- The laws of two searches in one row of notes and one queue.
pub mod Lanes
pub mod Spreads
pub mod Joint
