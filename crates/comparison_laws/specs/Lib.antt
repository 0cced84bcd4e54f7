-- The laws of two plan sheets laid side by side, as the calls are held to them.
pub mod Laws
