pub mod Networks
pub mod Cases
