-- What the contracts of the functions that look for bound gates say.
pub mod Skips
