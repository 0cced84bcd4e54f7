-- What the calls that contract a network promise.
pub mod Calls
