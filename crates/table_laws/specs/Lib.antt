-- Items 1 and 3 of document 02, said of what a caller gets.
pub mod Services
pub mod Enlarged
pub mod Tables
