pub mod Numbers
pub mod Widths
pub mod Numbered
pub mod Evaluating
