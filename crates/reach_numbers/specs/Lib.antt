-- A record of the reach table as numbers.
pub mod Records
