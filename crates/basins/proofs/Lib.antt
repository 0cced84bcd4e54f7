-- The wet basins by the half-edges that stand there, the lowest of them, and the bytes that they get.
pub mod Wets
pub mod Lows
pub mod Notes
pub mod Graphs
