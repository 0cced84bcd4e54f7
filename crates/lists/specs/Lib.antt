-- What document 01's definitions are computed by: finite searches, and bytes read as a number.
pub mod Lists
pub mod Words
