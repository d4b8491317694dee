pub mod Moves
pub mod Sifting
