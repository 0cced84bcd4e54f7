-- The laws of the walker.
pub mod Sizes
pub mod Copies
pub mod Makes
pub mod Steps
