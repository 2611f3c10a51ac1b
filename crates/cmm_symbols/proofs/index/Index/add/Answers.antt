use Rattle.std.proofs.Common.{Some, sym, ◌∙◌}
use Rattle.std.proofs.lemmas.Map.Text.{hash_map_updates_str}
use Rattle.cmm_symbols.specs.Indexed.{indexed}
use Rattle.cmm_symbols.proofs.Indexing.{name_added, none_there}
use Rattle.cmm_symbols.proofs.index.Index.add.Goals as goal

pub returns-clause-names : goal.returns-clause-names
returns-clause-names g c =
    name_added (indexed c.args.self.now) (indexed (record { table = c.insert.new.self })) c.args.name.now c.args.next
    (sym c.get.ensures ∙ none_there c.get.result c.is_some.result c.is_some.ensures c.if-is_some.false)
    (hash_map_updates_str c.args.name.now c.args.self.now.table c.insert.new.self (Some c.args.next) c.in_ok-insert.ensures.updates)
