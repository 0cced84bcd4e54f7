-- Reaches in series, and rows that say so.
pub mod Pairs
pub mod Guides
