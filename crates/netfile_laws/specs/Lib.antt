-- What the network file's two calls promise of one another.
pub mod Laws
