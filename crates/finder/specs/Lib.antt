-- What the finder's contracts cite beside document 01's definitions.
pub mod Rooms
