-- What the call that tells bound gates promises.
pub mod Calls
