pub mod Refusals
pub mod Answers
pub mod Sessions
pub mod Shows
pub mod Output
pub mod Parts
pub mod Starts
