pub mod Zeros
pub mod FirstMemory
pub mod Steps
pub mod Turning
pub mod Taking
pub mod AtYields
pub mod WholeRuns
pub mod Through
pub mod Moving
mod RunRows
