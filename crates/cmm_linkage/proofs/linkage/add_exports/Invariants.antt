use Rattle.std.proofs.Common.{◌≡◌, ◌++◌, map, take}
use Rattle.cmm_symbols.specs.Shown.{shown}
use Rattle.cmm_linkage.specs.inside.Linkages.{AreLinks, exported_shown, publication}
use Rattle.cmm_linkage.proofs.linkage.add_exports.Given as goal

abbrev pub invariant-loop-export : goal.invariant-loop-export
invariant-loop-export l = record {
  exports : map exported_shown l.exports ≡ map exported_shown l.initial.exports ++ map (publication (map shown l.table.declared)) (map (λ e. e.now) (take l.export-index l.listed));
  links : AreLinks l.initial.links l.initial.exports → AreLinks l.links l.exports;
}
