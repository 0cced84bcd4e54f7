-- What the contracts of the tests of single reaches and basins say.
pub mod Ready
pub mod Tries
