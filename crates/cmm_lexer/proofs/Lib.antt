mod Beginnings
mod Finishing
mod Numbered
mod Numbering
mod OfBytes
mod Placing
mod Positions
mod Quoting
pub mod Shared
mod Splitting
mod Taking
mod WorkedRows
