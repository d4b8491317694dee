pub mod Pairs
pub mod Flow
pub mod Theorems
