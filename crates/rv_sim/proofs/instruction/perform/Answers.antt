use Rattle.std.proofs.Common.{◌≡◌, refl, sym, ◌∙◌}
use Rattle.rv_table.specs.declared.effects.Effect.TheVariants.{Branch}
use Rattle.rv_table.specs.declared.trap.TrapKind.TheVariants.{BadLoad, BadStore}
use Rattle.rv_sim.specs.Stepping.{state_of}
use Rattle.rv_memory.specs.Regions.{map_of, memory_of}
use Rattle.rv_table.specs.Machine.{Next, done, is_accessible, with_set}
use Rattle.rv_sim.proofs.States.{load_done, not_refused, store_done}
use Rattle.rv_sim.proofs.instruction.perform.Goals as goal

pub returns-in_ok-store-in-Store-clause-state : goal.returns-in_ok-store-in-Store-clause-state
returns-in_ok-store-in-Store-clause-state c =
    let m = c.args.m.now in
    let address = c.in-Store.address in
    let size = c.in-Store.size in
    let value = c.in-Store.value in
    let accessible = not_refused (is_accessible (map_of m) address size) c.store.result c.in_ok-store-in-Store.field-0 BadStore c.in_ok-store-in-Store.was c.store.ensures.refused in
    rw c.in-Store.is (store_done m c.store.new.self c.args.r.now c.set-in-Store.new.r address size value accessible (c.store.ensures.memory accessible)
    (c.set-in-Store.ensures.state (memory_of c.store.new.self)))

pub returns-in-Set-clause-state : goal.returns-in-Set-clause-state
returns-in-Set-clause-state c = rw c.in-Set.is (c.set.ensures.state (memory_of c.args.m.now))

pub returns-in_ok-value-in-Load-clause-state : goal.returns-in_ok-value-in-Load-clause-state
returns-in_ok-value-in-Load-clause-state c =
    let m = c.args.m.now in
    let address = c.in-Load.address in
    let size = c.in-Load.size in
    let accessible = not_refused (is_accessible (map_of m) address size) c.load.result c.in_ok-value-in-Load.value BadLoad c.in_ok-value-in-Load.was c.load.ensures.refused in
    rw c.in-Load.is (load_done m c.args.r.now c.set-in-Load.new.r c.in-Load.rd address size c.in_ok-value-in-Load.value c.extended.result c.in-Load.signed accessible
    (sym c.in_ok-value-in-Load.was ∙ c.load.ensures.value accessible) c.extended.ensures (c.set-in-Load.ensures.state (memory_of m)))

pub returns-else-taken-clause-state : goal.returns-else-taken-clause-state
returns-else-taken-clause-state c =
    let not_taken : done (map_of c.args.m.now) (state_of c.args.r.now c.args.m.now) (Branch c.in-Branch.taken c.in-Branch.target)
    ≡ Next (with_set (state_of c.args.r.now c.args.m.now) 0 0) = rw c.if-taken.false refl in
    rw (c.in-Branch.is, not_taken) (c.set-else-taken.ensures.state (memory_of c.args.m.now))
