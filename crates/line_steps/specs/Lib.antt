-- The state after a step from the plan in hand.
pub mod Steps
