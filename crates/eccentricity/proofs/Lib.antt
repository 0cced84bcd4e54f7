-- The greatest number of the wet basins, one basin after the other.
pub mod Mosts
