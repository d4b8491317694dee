pub mod Least
pub mod Walks
pub mod Costs
