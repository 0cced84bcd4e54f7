-- What the calls promise of one another: sheets are read back as written.
pub mod Laws
