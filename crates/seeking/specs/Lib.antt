-- What the contracts of the searches for a plan cite beside document 01's definitions.
pub mod Levels
pub mod Found
pub mod Seeks
