use Rattle.cmm_client_laws.proofs.Rows.{tables_are_told}
use Rattle.cmm_client_laws.proofs.laws.rows_are_tables.Goals as goal

pub returns : goal.returns
returns c = tables_are_told
