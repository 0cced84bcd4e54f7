-- Laws of tests, lists, searches and words that the toolchain's libraries do not have.
pub mod Bools
pub mod Lists
pub mod Ranges
pub mod Searches
pub mod Words
