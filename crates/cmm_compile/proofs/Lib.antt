pub mod Ascending
pub mod Few
pub mod Covering
pub mod Knowing
pub mod Agreeing
