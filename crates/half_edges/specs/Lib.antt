-- Half-edges and their arcs, and the index of a table's half-edges.
pub mod Ends
pub mod Chains
pub mod Graphs
