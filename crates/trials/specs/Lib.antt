pub mod Drafts
pub mod Families
pub mod Kinds
pub mod Numbers
pub mod Tallies
pub mod Traps
