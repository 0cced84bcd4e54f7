-- Demands 2 and 3, from what the calls promise.
pub mod Demands
