-- What the check of a setting and the longest of its fewest counts say together.
pub mod Diameters
