pub mod Least
pub mod Calls
pub mod Sifted
pub mod Slices
