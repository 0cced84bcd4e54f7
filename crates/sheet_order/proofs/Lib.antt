-- The laws of the order of two plan sheets and of the place where they part; the cases computed.
pub mod Prefixes
pub mod Sheets
pub mod Orders
pub mod Laws
pub mod Cases
