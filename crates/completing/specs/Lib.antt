-- What the contracts of the functions that complete a partial orientation say.
pub mod Greedy
