-- What the contracts of marks say: which basins are marked.
pub mod Sets
