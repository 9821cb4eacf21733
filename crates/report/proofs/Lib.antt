pub mod AscendingLists
pub mod CommaLists
pub mod CommaWords
pub mod OptionWords
pub mod PairWords
pub mod Refusals
pub mod RequestWords
pub mod WordPlaces
