-- The laws of tables lent as rows of numbers, and what one turn of each loop over rows does.
pub mod Laws
pub mod Turns
pub mod Faults
pub mod Hangs
pub mod Gathers
pub mod Cuts
pub mod Filling
