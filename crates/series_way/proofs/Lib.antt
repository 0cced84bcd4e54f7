-- The law of guided gates.
pub mod Guided
