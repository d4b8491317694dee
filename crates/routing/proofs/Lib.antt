pub mod Ranks
pub mod Places
pub mod Settles
pub mod Fronts
pub mod Back
pub mod Takes
pub mod Answered
pub mod Networks
