pub mod Sums
pub mod Duality
pub mod Cut
pub mod Augment
pub mod Take
pub mod Rising
pub mod Agree
