-- The laws of the lister's text.
pub mod Turns
pub mod Fills
pub mod Printed
pub mod Steps
