pub mod Lists
pub mod Keeping
pub mod Places
pub mod Samples
pub mod AskedStores
pub mod RangeTests
pub mod Tests
pub mod Shared
pub mod Settling
pub mod Positions
pub mod Leading
pub mod LivePaths
mod Calls
mod Yielding
mod Erring
mod Commanding
mod CallRows
mod ErrorRows
mod ClientRows
mod AnswerRows
mod LayoutRows
mod RangeRows
mod TokenRows
mod ValueRows
mod Storing
mod StoreRows
mod Flowing
mod LiveRows
