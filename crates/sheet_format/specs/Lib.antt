-- Plan sheets, finding sheets and the reply sheet by document 01's words, in its order.
pub mod Sheets
pub mod Readings
pub mod Rows
pub mod Answers
pub mod Examples
