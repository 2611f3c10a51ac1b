use Rattle.cmm_symbols.specs.Shown.{shown}
use Rattle.cmm_check_units.proofs.Cyclic.{noted_here}
use Rattle.cmm_check_units.proofs.cycles.note_dependent.Goals as goal

pub returns : goal.returns
returns c = λ ds. λ are. λ at. λ counts.
    noted_here ds c.args.number (shown c.args.named.now) c.on_itself-depends.result c.args.best.now c.unless.new.best counts
    (λ number. c.on_itself-depends.ensures ds (shown c.args.named.now) are number at) c.unless.ensures
