-- Item 4 of document 02 over the running calls.
pub mod Contractions
