use Rattle.std.proofs.Common.{◌≡◌, ◌<◌, ◌++◌, ◌∙◌, List, length, get_or, map, ap, sym, subst}
use Rattle.std.specs.Prelude.{flat_map}
use Rattle.cmm_ast.specs.declared.expression.TypeName.{TypeName}
use Rattle.cmm_static_semantics.specs.Declarations.{Declared}
use Rattle.cmm_static_semantics.specs.Linking.{register_entry}
use Rattle.cmm_symbols.specs.Shown.{shown}
use Rattle.cmm_symbols.specs.declared.table.Named.{Named}
use Rattle.cmm_symbols.specs.declared.entry.Entry.{Entry}
use Rattle.cmm_linkage.specs.inside.Counted.{counted}
use Rattle.cmm_linkage.proofs.Registering.{registers_next}
use Rattle.cmm_linkage.proofs.register.registers_in.Goals as goal

pub loop-number-preserved : goal.loop-number-preserved
loop-number-preserved c =
    let ds = c.args.table.now.declared in
    let k = c.loop-number.number in
    let d = c.named-item.result in
    let within : k < length ds = subst (λ (q : List (Named Entry)). k < length q) c.as_slice-named-items.ensures c.loop-number-test.true in
    let is : d ≡ get_or ds k d = subst (λ (q : List (Named Entry)). d ≡ get_or q k d) c.as_slice-named-items.ensures c.named-item.is in
    c.in_ok-add_counted.ensures ∙ ap (λ (t : List (Declared TypeName)). t ++ flat_map register_entry (counted (map shown ds) k (shown d))) c.loop-number.invariant
    ∙ sym (registers_next ds k d within is)
