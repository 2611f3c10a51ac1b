pub mod Outside
pub mod Runs
pub mod Sessions
pub mod inside
