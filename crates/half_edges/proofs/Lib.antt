-- The laws of half-edges and of their index.
pub mod Laws
pub mod Halves
pub mod Links
pub mod Hands
