-- The laws of the lines.
pub mod Examples
pub mod Puts
pub mod Lines
pub mod Dues
