-- What the order of two sheets comes to where the table is refused.
pub mod Faults
