-- The laws of the lister's state.
pub mod States
pub mod Starts
