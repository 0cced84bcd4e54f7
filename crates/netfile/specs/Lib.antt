-- What the reader over a lent reach table promises.
pub mod Reads
