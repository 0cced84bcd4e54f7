-- Item 2 of document 02 over the running calls.
pub mod Bounds
