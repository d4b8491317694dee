pub mod Words
pub mod Orders
pub mod Refusals
pub mod Log
