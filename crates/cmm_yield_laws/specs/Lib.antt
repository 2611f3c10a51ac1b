pub mod Yielding
pub mod Standing
pub mod WholeCode
pub mod Examples
pub mod Laws
