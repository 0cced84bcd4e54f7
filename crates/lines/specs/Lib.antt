-- What the lister prints, by document 01's words, and the lines that it is made of.
pub mod Listings
pub mod Examples
pub mod Dues
pub mod Puts
