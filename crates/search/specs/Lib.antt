-- What one search does and finds.
pub mod Searches
pub mod Fronts
