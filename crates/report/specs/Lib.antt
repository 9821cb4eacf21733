pub mod Spelled
pub mod Links
pub mod Lines
pub mod Requests
pub mod Texts
pub mod Words
pub mod Piles
pub mod PileLaws
