-- What the contracts of the functions that follow a setting and part from it say.
pub mod Follows
