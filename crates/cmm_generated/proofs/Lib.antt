mod Ranges
mod Rows
