pub mod Linked
pub mod Flat
pub mod Cyclic
pub mod Units
pub mod Totals
pub mod Found
