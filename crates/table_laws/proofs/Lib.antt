-- Items 1 and 3 of document 02 over the running calls.
pub mod Services
pub mod Enlarged
pub mod Tables
