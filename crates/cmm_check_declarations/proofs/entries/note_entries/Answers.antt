use Rattle.cmm_symbols.specs.Shown.{shown}
use Rattle.cmm_static_semantics.proofs.Shared.{noted_next_of}
use Rattle.cmm_check_declarations.specs.EntryFaults.{entry_value_spots}
use Rattle.cmm_check_declarations.proofs.entries.note_entries.Goals as goal

pub loop-named-preserved : goal.loop-named-preserved
loop-named-preserved g c = rw (c.note_entry.ensures, c.loop-named.invariant)
    (noted_next_of shown (λ d. entry_value_spots (g.N.Names.senses c.args.names.now) d.as_what) c.args.best.now c.args.declared.now c.loop-named.named-index c.named-item.result
    c.loop-named-test.true c.named-item.is)
