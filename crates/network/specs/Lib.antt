-- Document 01's definitions, in its order, with items 1 to 3 of document 02. A reader who believes these files, and the searches of the crate lists that they cite, knows what every promise says.
pub mod Networks
pub mod Tables
pub mod Settings
pub mod Orientations
pub mod Plans
pub mod Bridges
pub mod Marks
pub mod Replies
pub mod Certificates
pub mod Services
pub mod Choices
pub mod Enlarged
pub mod TwoWays
pub mod Cases
