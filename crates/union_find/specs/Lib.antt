-- Components by union-find.
pub mod Forests
