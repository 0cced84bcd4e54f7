-- What the search from both ends requires once it is under way.
pub mod Leads
