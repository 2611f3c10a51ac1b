use Rattle.cmm_ast.specs.declared.declaration.Import.{Import}
use Rattle.cmm_symbols.proofs.Lengths.{long_mapped}
use Rattle.cmm_symbols.proofs.long_item.note_imports.Goals as goal

pub loop-import-preserved : goal.loop-import-preserved
loop-import-preserved c = rw (c.note_name.ensures, c.loop-import.invariant)
    (long_mapped {A = Import} (λ i. i.name) c.args.best.now c.args.imports.now c.loop-import.import-index c.import-item.result c.loop-import-test.true c.import-item.is)
