-- The laws of the finder.
pub mod Rooms
