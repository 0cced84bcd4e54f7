-- The laws of deciding one gate.
pub mod Gates
