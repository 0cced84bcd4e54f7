-- What is still to be printed in a state of the lister, and what its calls promise.
pub mod Pending
pub mod Parts
