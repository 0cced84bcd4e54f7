-- What is proved of the sheet calls over a lent table.
pub mod Faults
