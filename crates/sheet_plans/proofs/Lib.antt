-- What the planner's promises come to for the sheets.
pub mod Calls
pub mod Replies
