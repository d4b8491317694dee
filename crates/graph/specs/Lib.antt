pub mod Arcs
pub mod Graphs
pub mod Index
pub mod Listing
