use Rattle.std.proofs.Common.{◌≡◌, ◌+◌, ◌<◌, ◌^◌, ◌++◌, map, subst, sym}
use Rattle.std.specs.Prelude.{flat_map}
use Rattle.std.specs.List.{All}
use Rattle.cmm_ast.specs.declared.unit.Unit.{Unit as UnitTree}
use Rattle.cmm_static_semantics.specs.Items.{items_of}
use Rattle.cmm_static_semantics.specs.Senses.{Senses}
use Rattle.cmm_symbols.specs.Shown.{thing_item}
use Rattle.cmm_typing.specs.Fitting.{AreWords}
use Rattle.cmm_checked.specs.Known.{names_of}
use Rattle.cmm_lower.specs.Fitting.{ItemFits}
use Rattle.cmm_elaboration.specs.Meaning.{item_procedures}
use Rattle.cmm_elaboration.specs.Data.{datums_among, item_datums, unit_labels}
use Rattle.cmm_lower.proofs.Growing.{IsShort, parts_next}
use Rattle.cmm_lower.proofs.parts.Parts.with_unit.Goals as goal

pub add_procedures-requires : goal.add_procedures-requires
add_procedures-requires c = subst (λ (n : Senses). AreWords n) (sym c.names-names.ensures) c.requires

pub add_datums-requires : goal.add_datums-requires
add_datums-requires c = subst (λ (n : Senses). AreWords n) (sym c.names-names.ensures) c.requires

pub returns : goal.returns
returns c program before u fits known number are =
    let unit = c.args.unit.now in
    let names = names_of unit in
    let first = c.next_datum-first.result in
    parts_next program before u c.args.number unit fits known number c.args.self.procs c.add_procedures.new.to c.args.self.datums c.add_datums.new.to
    c.args.self.labels c.add_labels.new.to first are
    (subst (λ (n : Senses). All (λ i. ItemFits n i.what) (items_of unit.flat) → c.add_procedures.new.to ≡ c.args.self.procs ++ flat_map (item_procedures n c.args.number) (items_of unit.flat))
    c.names-names.ensures c.in_ok-add_procedures.ensures)
    (subst (λ is. All IsShort (flat_map (item_datums names) is) → c.add_datums.new.to ≡ c.args.self.datums ++ flat_map (item_datums names) is) c.things.ensures
    (subst (λ (n : Senses). All IsShort (flat_map (item_datums n) (map thing_item c.things.result.now)) → c.add_datums.new.to ≡ c.args.self.datums ++ flat_map (item_datums n) (map thing_item c.things.result.now))
    c.names-names.ensures c.in_ok-add_datums.ensures.fitting))
    c.next_datum-first.ensures
    (subst (λ (t : UnitTree). first + datums_among (items_of t) < 2 ^ 32 → c.add_labels.new.to ≡ c.args.self.labels ++ unit_labels (map (λ e. e.now) unit.exports) first t.parts) c.tree.ensures
    (subst (λ xs. first + datums_among (items_of c.tree.result.now) < 2 ^ 32 → c.add_labels.new.to ≡ c.args.self.labels ++ unit_labels (map (λ e. e.now) xs) first c.tree.result.now.parts)
    c.as_slice.ensures
    (subst (λ es. first + datums_among (items_of c.tree.result.now) < 2 ^ 32 → c.add_labels.new.to ≡ c.args.self.labels ++ unit_labels (map (λ e. e.now) es.now) first c.tree.result.now.parts)
    c.in_ok-links.ensures c.in_ok-add_labels.ensures.fitting)))
