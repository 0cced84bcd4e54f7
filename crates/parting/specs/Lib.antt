-- What the contracts of the functions that follow a setting, or part from it, at one reach say.
pub mod Parts
