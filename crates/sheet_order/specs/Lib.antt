-- The order of two plan sheets and the place where they part, by the words of document 02, item 5.
pub mod Orders
pub mod Parts
pub mod Calls
pub mod Laws
pub mod Cases
