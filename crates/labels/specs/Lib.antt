pub mod Spellings
pub mod Names
pub mod Faults
pub mod Directories
