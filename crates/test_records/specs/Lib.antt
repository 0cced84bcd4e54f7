-- How large a table the program tries.
pub mod Rooms
