-- The laws of a search.
pub mod Sides
pub mod Counts
pub mod Visits
pub mod Scans
pub mod Fronts
