-- The laws of completing a partial orientation.
pub mod Goings
