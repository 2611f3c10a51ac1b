use Rattle.std.proofs.Common.{◌≡◌, ◌++◌, [], ◌∙◌, ap, arith, List, length, length-append, map}
use Rattle.cmm_bitset.specs.Sets.{members}
use Rattle.cmm_unit_code.specs.declared.unit_code.Reference.{Reference}
use Rattle.cmm_unit_code.specs.declared.unit_code.Reference.TheVariants.{Register, Label}
use Rattle.cmm_emit.proofs.Symbolled.{are_symbols, members_few}
use Rattle.cmm_emit.proofs.symbols.make_symbols.Goals as goal

pub symbols_of_sort-requires-2-clause-few : goal.symbols_of_sort-requires-2-clause-few
symbols_of_sort-requires-2-clause-few c =
    let named = c.in_ok-named.ensures in
    let registers = named.registers in
    let labels = named.labels in
    let few = c.requires.few in
    omega (
      arith,
      few,
      registers,
      labels,
      ap (λ (rs : List Reference). length rs)
          (c.in_ok-registers.ensures.references ∙ ap (λ (rs : List Reference). rs ++ map Register (members c.in_ok-named.named.registers)) c.new-references.ensures),
      members_few Register c.in_ok-named.named.registers,
    )

pub symbols_of_sort-requires-3-clause-few : goal.symbols_of_sort-requires-3-clause-few
symbols_of_sort-requires-3-clause-few c =
    let named = c.in_ok-named.ensures in
    let registers = named.registers in
    let labels = named.labels in
    let procedures = named.procedures in
    let size = c.forget.ensures.size in
    let few = c.requires.few in
    let rs = map Register (members c.in_ok-named.named.registers) in
    let ls = map Label (members c.in_ok-named.named.labels) in
    omega (
      arith,
      few,
      registers,
      labels,
      procedures,
      size,
      ap (λ (rs : List Reference). length rs)
          (c.in_ok-data_labels.ensures.references
          ∙ ap (λ (xs : List Reference). xs ++ ls) (c.in_ok-registers.ensures.references ∙ ap (λ (xs : List Reference). xs ++ rs) c.new-references.ensures)),
      length-append rs ls,
      members_few Register c.in_ok-named.named.registers,
      members_few Label c.in_ok-named.named.labels,
    )

pub returns-clause-made : goal.returns-clause-made
returns-clause-made c =
    let rs = map Register (members c.in_ok-named.named.registers) in
    are_symbols c.args.program.now c.args.graphs.now c.args.first c.args.count c.in_ok-named.named c.forget.new.set c.in_ok-named.ensures c.forget.ensures _
    c.symbols_of_sort.new.references c.symbols_of_sort-2.new.references
    (c.in_ok-registers.ensures.references ∙ ap (λ (xs : List Reference). xs ++ rs) c.new-references.ensures) c.in_ok-data_labels.ensures.references
    c.in_ok-procedures.ensures.references c.in_ok-registers.ensures.made c.in_ok-data_labels.ensures.made c.in_ok-procedures.ensures.made
