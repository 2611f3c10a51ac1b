mod Giving
mod Adding
mod Simple
mod Sorting
mod MeaningRows
pub mod InRange
