-- The state after a step, in its two cases.
pub mod Steps
