-- From what was found to the reply, and rows cut to one length.
pub mod Working
pub mod Calls
