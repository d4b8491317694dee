pub mod Decimals
pub mod Spaced
