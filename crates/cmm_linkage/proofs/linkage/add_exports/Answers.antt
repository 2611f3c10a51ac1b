use Rattle.std.proofs.Common.{◌++◌, ◌∷◌, [], map, ap, ◌∙◌}
use Rattle.cmm_symbols.specs.Shown.{shown}
use Rattle.cmm_linkage.specs.inside.Linkages.{exported_shown, publication}
use Rattle.cmm_linkage.proofs.Gathering.{listed_next}
use Rattle.cmm_linkage.proofs.linkage.add_exports.Goals as goal

pub loop-export-preserved : goal.loop-export-preserved
loop-export-preserved c =
    let f = publication (map shown c.args.table.now.declared) in
    let e = c.export-item.result in record {
      exports = c.in_ok-add_export.ensures.exports ∙ ap (λ t. t ++ f e.now ∷ []) c.loop-export.invariant.exports
          ∙ listed_next (λ x. x.now) f (map exported_shown c.args.exports.now) c.args.listed.now c.loop-export.export-index e c.loop-export-test.true c.export-item.is;
      links = λ are. c.in_ok-add_export.ensures.links (c.loop-export.invariant.links are);
    }
