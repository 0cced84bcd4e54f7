-- Document 02, item 4, "Clusters folded into one basin".
pub mod Components
pub mod Contracted
pub mod Labels
pub mod Cases
