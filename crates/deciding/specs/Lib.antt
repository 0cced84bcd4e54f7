-- What the contracts of the functions that decide one gate say.
pub mod Gates
