use Rattle.std.proofs.Common.{sym, ap, ◌∙◌, map, []}
use Rattle.std.specs.Prelude.{bytes_eq, unwrap_or, option_copied}
use Rattle.indexmap.specs.IndexMap.{get_by}
use Rattle.cmm_lower_parts.proofs.Numbered.{if_same}
use Rattle.cmm_lower_parts.proofs.links.Links.get.Goals as goal

pub returns-in-Some : goal.returns-in-Some
returns-in-Some c =
    let table = c.args.self.now.table in
    if_same c.copied.result c.copied.ensures (
    ap (map (λ n. n.now)) c.as_slice.ensures
    ∙ ap (λ o. map (λ n. n.now) (unwrap_or o [])) (sym (ap option_copied c.in-Some.is) ∙ c.get.ensures.value ∙ ap (λ x. get_by (λ k. bytes_eq x k.now) table) c.as_bytes.ensures)
    ∙ c.args.self.now.tied c.args.name.now
    )

pub returns-in-None : goal.returns-in-None
returns-in-None c =
    let table = c.args.self.now.table in
    c.new.ensures
    ∙ ap (λ o. map (λ n. n.now) (unwrap_or o [])) (sym (ap option_copied c.in-None.is) ∙ c.get.ensures.value ∙ ap (λ x. get_by (λ k. bytes_eq x k.now) table) c.as_bytes.ensures)
    ∙ c.args.self.now.tied c.args.name.now
