use Rattle.rv_table.specs.Registers.{registers_of}
use Rattle.rv_table.proofs.RowBounds.{row_has_a_size, row_writes_a_register}
use Rattle.rv_table.proofs.effects.effect_of.Goals as goal

pub returns-clause-register : goal.returns-clause-register
returns-clause-register c =
    rw c.row.ensures (row_writes_a_register (registers_of c.args.r.now) c.args.r.now.pc c.args.i c.requires)

pub returns-clause-size : goal.returns-clause-size
returns-clause-size c = rw c.row.ensures (row_has_a_size (registers_of c.args.r.now) c.args.r.now.pc c.args.i)
