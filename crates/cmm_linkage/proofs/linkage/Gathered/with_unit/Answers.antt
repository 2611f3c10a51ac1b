use Rattle.std.proofs.Common.{List, ◌++◌, ◌∙◌, ap, map, subst}
use Rattle.cmm_static_semantics.specs.Linking.{Program}
use Rattle.cmm_symbols.specs.Shown.{shown}
use Rattle.cmm_linkage.specs.declared.register.Register.{Register}
use Rattle.cmm_linkage.specs.inside.Linkages.{AreAdded, exported_shown, names_shown, publication}
use Rattle.cmm_linkage.proofs.Gathering.{program_grown}
use Rattle.cmm_linkage.proofs.linkage.Gathered.with_unit.Goals as goal

pub returns : goal.returns
returns c = λ us. λ u. λ is. λ declared. λ exported.
    let ds = map shown c.args.table.now.declared in
    let before = names_shown c.self.inside.registers in
    let after = names_shown c.add_names.new.to in
    program_grown us u c.args.self ds (map (λ e. e.now) c.args.listed.now) (map exported_shown c.add_exports.new.exports) before after c.in_ok-own.own
    is declared exported
    (c.in_ok-add_exports.ensures.exports ∙ ap (λ (p : Program). p.exports ++ map (publication ds) (map (λ e. e.now) c.args.listed.now)) c.self.view_is)
    (ap (λ (p : Program). p.registers) c.self.view_is)
    c.in_ok-own.ensures
    (subst (λ (rs : List Register). AreAdded (map (λ r. r.name.now.name) rs) before after) c.as_slice.ensures c.in_ok-add_names.ensures.names)
