-- What the contracts of the functions that tell bound gates say.
pub mod Tellings
