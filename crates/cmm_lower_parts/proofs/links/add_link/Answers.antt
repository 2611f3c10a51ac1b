use Rattle.std.proofs.Common.{Some, None, ap, ◌∙◌, List, ℕ}
use Rattle.std.specs.Prelude.{bytes_eq, unwrap_or}
use Rattle.std.proofs.lemmas.Map.Text.{hash_map_updates_str}
use Rattle.indexmap.specs.IndexMap.{get_by}
use Rattle.cmm_lower_parts.specs.Exported.{LinkTable}
use Rattle.cmm_lower_parts.proofs.Linking.{link_added}
use Rattle.cmm_lower_parts.proofs.links.add_link.Goals as goal

pub returns : goal.returns
returns c =
    let at_ = λ (table : LinkTable) (x : List ℕ). get_by (λ k. bytes_eq x k.now) table in
    link_added (at_ c.args.table.now) (at_ c.swap_remove.new.self) (at_ c.insert.new.self) c.args.name.now c.args.link c.unwrap_or-links.result c.push.new.self
    (hash_map_updates_str c.args.name.now c.args.table.now c.swap_remove.new.self None c.swap_remove.ensures.updates)
    (hash_map_updates_str c.args.name.now c.swap_remove.new.self c.insert.new.self (Some c.push.new.self) c.in_ok-insert.ensures.updates)
    c.in_ok-push.ensures.ok
    (c.unwrap_or-links.ensures ∙ ap (λ o. unwrap_or o c.new.result) c.swap_remove.ensures.value ∙ ap (unwrap_or (at_ c.args.table.now c.args.name.now)) c.new.ensures)
