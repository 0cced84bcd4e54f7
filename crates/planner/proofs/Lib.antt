-- Laws of the calls over packed rows.
pub mod Refusals
