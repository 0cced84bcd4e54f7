-- Laws of components and of the contracted network.
pub mod Components
pub mod Kept
pub mod Contracted
pub mod Replies
pub mod Cases
