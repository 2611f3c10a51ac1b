pub mod Ends
pub mod InForce
pub mod OfUnits
