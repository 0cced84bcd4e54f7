-- The laws of the searches for a plan.
pub mod Levels
pub mod Firsts
pub mod Rows
pub mod Seeks
