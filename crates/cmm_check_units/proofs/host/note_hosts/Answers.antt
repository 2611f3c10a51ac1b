use Rattle.cmm_static_semantics.specs.Declarations.{host_again}
use Rattle.cmm_symbols.specs.Shown.{shown}
use Rattle.cmm_static_semantics.proofs.Shared.{noted_next_of}
use Rattle.cmm_check_units.proofs.host.note_hosts.Goals as goal

pub loop-named-preserved : goal.loop-named-preserved
loop-named-preserved c = rw (c.unless.ensures, c.is_declarable.ensures, c.loop-named.invariant)
    (noted_next_of shown host_again c.args.best.now c.args.declared.now c.loop-named.named-index c.named-item.result c.loop-named-test.true c.named-item.is)
