-- The laws of roots and forests, and of the numbers that basins get.
pub mod Roots
pub mod Forests
pub mod Numbers
