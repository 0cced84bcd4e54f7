-- The laws of the search for the next plan.
pub mod Nexts
