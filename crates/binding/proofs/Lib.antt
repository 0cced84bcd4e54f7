-- The laws of telling bound gates.
pub mod Tellings
