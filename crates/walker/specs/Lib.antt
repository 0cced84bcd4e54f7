-- The walker.
pub mod Walkers
