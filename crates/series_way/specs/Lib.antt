-- What the contracts of the functions that take a gate's way from its guide say.
pub mod Guided
