-- What one turn of the filling does.
pub mod Numbers
pub mod Notes
pub mod Parts
pub mod Turns
