-- The laws of the fewest counts and of the longest of them.
pub mod Distances
pub mod Diameters
pub mod Answers
pub mod Cases
