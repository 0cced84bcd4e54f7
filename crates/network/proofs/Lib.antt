-- The laws of document 01's definitions.
pub mod Walks
pub mod Cases
pub mod Cuts
pub mod Ways
pub mod Networks
pub mod Bridges
pub mod Steps
pub mod Theorem
pub mod Replies
pub mod Certificates
pub mod Marks
pub mod Order
pub mod Services
pub mod Choices
pub mod Enlarged
pub mod Served
pub mod TwoWays
