-- The network file by document 01's words, in its order.
pub mod Files
pub mod Answers
pub mod Examples
