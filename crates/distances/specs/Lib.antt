-- Document 02, item 6: how far the water goes.
pub mod Distances
pub mod Diameters
pub mod Answers
pub mod Cases
