-- What the contracts of the functions that orient gates say of partial orientations.
pub mod Least
pub mod Partials
