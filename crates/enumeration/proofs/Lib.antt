pub mod Minimum
pub mod Marks
pub mod Onward
pub mod Follow
pub mod Whole
