-- From rows to the lent buffer.
pub mod Answers
pub mod Buffers
