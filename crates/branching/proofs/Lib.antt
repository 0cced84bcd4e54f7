-- The laws of following a setting and parting from it.
pub mod Follows
