-- Working memory prepared for the plans after a plan.
pub mod Priming
