use Rattle.std.proofs.Common.{◌-◌, arith}
use Rattle.rv_table.specs.Memory.{data_base}
use Rattle.rv_memory.specs.contracts.memory.Memory.{the_view}
use Rattle.rv_memory.proofs.Storing.{word_stored_in_data}
use Rattle.rv_memory.proofs.memory.Memory.set_data_word.Goals as goal

pub returns-clause-memory : goal.returns-clause-memory
returns-clause-memory c =
    let low = c.requires.low in
    let high = rw (← c.self.view_is) at c.requires.high in
    let room = c.self.invariant.region in
    rw (← c.self.view_is) (
    word_stored_in_data (the_view c.self.inside) c.write.new.bytes.items c.args.address (c.args.address - data_base) 8 c.args.value c.self.invariant (omega arith) (omega arith) c.write.ensures.bytes)
