-- Item 4 of document 02, said of what a caller gets.
pub mod Contractions
