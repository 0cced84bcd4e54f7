-- The law of the two calls, from what they promise.
pub mod Diameters
