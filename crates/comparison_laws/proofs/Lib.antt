-- The laws of two plan sheets laid side by side, by what the calls promise.
pub mod Partings
