-- Demands 2 and 3, said of what a caller gets.
pub mod Demands
