use Rattle.std.proofs.Common.{sym, ap, ◌∙◌}
use Rattle.cmm_static_semantics.specs.Senses.{is_host}
use Rattle.cmm_symbols.proofs.Shared.{entry_found}
use Rattle.cmm_linkage.proofs.owned.entry_of.Goals as goal

pub returns-else-is_host : goal.returns-else-is_host
returns-else-is_host c = entry_found c.args.name.now c.args.table.now.declared c.find.result
    (sym (c.is_host.ensures ∙ ap is_host c.as_bytes.ensures) ∙ c.if-is_host.false) c.find.ensures
