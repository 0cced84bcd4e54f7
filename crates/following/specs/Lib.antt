-- What the contracts of the search for the next plan cite beside document 01's definitions.
pub mod Nexts
