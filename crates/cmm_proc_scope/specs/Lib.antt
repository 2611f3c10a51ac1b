pub mod Owned
pub mod Bodies
pub mod Procs
pub mod inside
