-- From what the first plan leaves to what is told of bound gates.
pub mod Calls
