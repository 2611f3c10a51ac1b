pub mod ProcedureRows
pub mod SiteRows
pub mod Premises
