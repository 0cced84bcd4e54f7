-- The longest of the fewest counts, of rows and of the network that they say.
pub mod Rows
