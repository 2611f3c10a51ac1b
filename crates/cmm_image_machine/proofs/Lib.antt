mod Growing
pub mod Chaining
mod StackRead
mod Finding
mod Samples
mod RunRows
mod EventRows
mod Versions
pub mod Shared
