-- What the contracts of the functions that follow channels say.
pub mod Channels
