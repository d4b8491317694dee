pub mod Decimals
pub mod Held
