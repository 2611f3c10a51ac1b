mod Values
mod Stepping
mod Forms
mod Blocks
mod Scripts
mod Limits
mod ScriptRows
