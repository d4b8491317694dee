pub mod Accepted
pub mod Collected
pub mod Invariant
pub mod Lawful
pub mod Put
pub mod Refused
pub mod Words
