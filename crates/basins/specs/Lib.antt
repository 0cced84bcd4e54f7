-- Which basins are wet.
pub mod Wet
pub mod Graphs
