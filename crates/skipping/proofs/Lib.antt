-- The laws of trying bound gates no more.
pub mod Skips
