-- The laws of what is refused.
pub mod Dues
