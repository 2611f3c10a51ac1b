mod Listed
pub mod Shared
mod UnplacedRows
