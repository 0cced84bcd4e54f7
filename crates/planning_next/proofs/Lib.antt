-- From what was found to the reply.
pub mod Working
