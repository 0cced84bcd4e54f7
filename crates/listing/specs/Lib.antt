-- What is still to be printed of the lister's text, and what is printed at all.
pub mod Laws
pub mod Keeping
