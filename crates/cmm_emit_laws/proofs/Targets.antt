-- Where a node puts a value: a place of the activation, or a global register.
use Rattle.std.proofs.Common.{◌≡◌, ℕ, ◌+◌, ◌*◌, ◌<◌, ◌^◌, refl, sym, ◌∙◌, ap, subst, arith, true, List, [], ◌∷◌, length, length-set, IsTrue}
use Rattle.std.specs.Prelude.{◌&&◌, nat_lt, slice_index_or, slice_set}
use Rattle.std.specs.List.{list_all}
use Rattle.std.proofs.lemmas.Bool.Decides.{nat_tests}
use Rattle.rv_table.specs.Machine.{LiesIn, MemoryMap, State, is_accessible, loaded, Region}
use Rattle.rv_asm.specs.declared.part.Label.{Label}
use Rattle.cmm_program.specs.declared.procedure.Target.TheVariants as target
use Rattle.cmm_program.specs.State.{Activation, Setting, Store}
use Rattle.cmm_graph.specs.declared.operand.Destination.{Destination}
use Rattle.cmm_graph.specs.declared.operand.Destination.TheVariants as destination
use Rattle.cmm_graph.specs.declared.operand.Local.{Local}
use Rattle.cmm_graph.specs.declared.operand.Local.TheVariants as local
use Rattle.cmm_graph.specs.Counterpart.{targets_of_destination}
use Rattle.cmm_chain.specs.Contents.{Number}
use Rattle.cmm_chain.specs.Running.{Holdings, put_in}
use Rattle.cmm_effects.specs.Accesses.{CanReachGlobal, PutsGlobal, global_at}
use Rattle.cmm_effects.specs.Changes.{Writes}
use Rattle.cmm_select.specs.declared.destination.Destination.{Destination as CodeDestination}
use Rattle.cmm_select.specs.declared.destination.Destination.TheVariants as into
use Rattle.cmm_select.specs.Destinations.{CanPut, PutsTo}
use Rattle.cmm_image_machine.specs.Machine.{Launch, map_of}
use Rattle.cmm_emit_laws.proofs.Reading.{place_is_reachable, register_is_read, register_shows}
use Rattle.cmm_emit_laws.proofs.Showing.{put_shows}
use Rattle.cmm_emit_laws.specs.Represented.{IsFor, IsPlaceOf, IsRepresented, stack_region}
use Rattle.rv_table.specs.declared.memory_map.TheConstants.{GLOBALS_OFFSET}
use Rattle.cmm_located.specs.Compiled.{Compiled, number_in, place_of}
use Rattle.cmm_emit_laws.specs.Finished.{Finished}
use Rattle.cmm_emit_laws.specs.NodeCode.{IsDestinationOf, IsRegister}
use Rattle.cmm_emit_laws.specs.ProgramCode.{names_register}
use Rattle.cmm_abi.specs.Regions.{global_address}
use Rattle.cmm_abi.proofs.Shared.{low_word_accessible}

-- ---- what registers and stack hold, and global registers have, once a destination has taken a value

abbrev pub holdings_with : Compiled → ℕ → Destination → ℕ → Holdings → Holdings
holdings_with c q (destination.Target (target.Variable number width)) v h = put_in (place_of c q (local.Variable (record { number = number }))) (Number v) h
holdings_with c q (destination.Target (target.Register number width)) v h = h
holdings_with c q (destination.Temporary m) v h = put_in (place_of c q (local.Temporary m)) (Number v) h

abbrev pub registers_with : Destination → ℕ → List ℕ → List ℕ
registers_with (destination.Target (target.Variable number width)) v registers = registers
registers_with (destination.Target (target.Register number width)) v registers = slice_set registers number v
registers_with (destination.Temporary m) v registers = registers

pub count_with : (d : Destination) (v : ℕ) (registers : List ℕ) → length (registers_with d v registers) ≡ length registers
count_with (destination.Target (target.Variable number width)) v registers = refl
count_with (destination.Target (target.Register number width)) v registers = length-set registers number v
count_with (destination.Temporary m) v registers = refl

-- the word of a global register may be accessed
register_accessible : (w : Region) (m : MemoryMap) (k : ℕ) → LiesIn w m → k < 256 → IsTrue (is_accessible m (global_address w k) 8)
register_accessible w m k lies less =
    let here : w.address + (GLOBALS_OFFSET + 8 * k) ≡ global_address w k = omega arith in
    let reached = low_word_accessible w m (GLOBALS_OFFSET + 8 * k) lies (omega arith) (omega (arith, less)) in
    subst (λ (a : ℕ). IsTrue (is_accessible m a 8)) here reached

module _ (s : Setting) (c : Compiled) (l : Launch) (f : Finished) (rest : ℕ → ℕ) (is_for : IsFor s (map_of l)) (q : ℕ) (h : Holdings) (store : Store) (a : Activation) (older : List Activation)
    (youngest : store.activations ≡ a ∷ older) (places : (v : ℕ) → IsPlaceOf s a (c.plan.place q v)) (t : State) (shown : IsRepresented f.symbols rest s h store [] t) where
  -- ---- global registers

  module _ (r : ℕ) (label : Label) (is : IsRegister s c l f q r label) (within : r < length store.registers) where
    address_is : t.registers 4 + f.labels q label.number ≡ global_address (stack_region s) r
    address_is = ap (λ (n : ℕ). n + f.labels q label.number) shown.holdings.region ∙ is (stack_region s)

    pub global_reached : CanReachGlobal (f.labels q label.number) (map_of l) t
    global_reached =
        let few : r < 256 = omega (arith, within, shown.registers.0) in
        subst (λ (n : ℕ). (n < 2 ^ 64) × IsTrue (is_accessible (map_of l) n 8)) (sym address_is) ((omega (arith, few, is_for.lies.narrow), register_accessible (stack_region s) (map_of l) r is_for.lies few))

    pub global_is_read : global_at (f.labels q label.number) t ≡ slice_index_or store.registers r 0
    global_is_read = ap (λ (n : ℕ). loaded t.memory n 8) address_is ∙ register_is_read f.symbols rest s (map_of l) is_for h store r within t [] shown

    global_put : (v : ℕ) → v < 2 ^ 64 → (u : State) → PutsGlobal (f.labels q label.number) v t u →
        IsRepresented f.symbols rest s h (record store { registers = slice_set store.registers r v }) [] u
    global_put v small u puts = register_shows f.symbols rest s (map_of l) is_for h store r within t v small u (subst (λ (n : ℕ). Writes n 8 v t u) address_is puts) shown

  -- ---- destinations

  module _ (count : length store.registers ≡ length s.program.globals) where
    within_store : (number : ℕ) → (nat_lt number (length s.program.globals) && true) ≡ true → number < length store.registers
    within_store number named = let less : number < length s.program.globals = grind (arith, nat_tests, named) in omega (arith, less, count)

    local_reached : (v : Local) (x : CodeDestination) → x ≡ into.Place (place_of c q v) → CanPut (f.labels q) x (map_of l) t
    local_reached v x is =
        subst (λ (d : CodeDestination). CanPut (f.labels q) d (map_of l) t) (sym is)
        (place_is_reachable f.symbols rest s (map_of l) is_for h store [] a older t youngest shown (place_of c q v) (places (number_in c.graphs q v)))

    pub can_put : (d : Destination) (x : CodeDestination) → IsDestinationOf s c l f q d x → list_all (names_register s.program) (targets_of_destination d) ≡ true →
        CanPut (f.labels q) x (map_of l) t
    can_put (destination.Target (target.Variable number width)) x is named = local_reached (local.Variable (record { number = number })) x is
    can_put (destination.Target (target.Register number width)) (into.Register label) is named = global_reached number label is (within_store number named)
    can_put (destination.Target (target.Register number width)) (into.Place place) is named = absurd is
    can_put (destination.Temporary m) x is named = local_reached (local.Temporary m) x is

    module _ (v : ℕ) (small : v < 2 ^ 64) (u : State) where
      local_put : (w : Local) (x : CodeDestination) → x ≡ into.Place (place_of c q w) → PutsTo (f.labels q) x v t u →
          IsRepresented f.symbols rest s (put_in (place_of c q w) (Number v) h) store [] u
      local_put w x is puts =
          put_shows f.symbols rest s (map_of l) is_for h store a older t u youngest (place_of c q w) v (places (number_in c.graphs q w)) small
          (subst (λ (d : CodeDestination). PutsTo (f.labels q) d v t u) is puts) shown

      pub put_shown : (d : Destination) (x : CodeDestination) → IsDestinationOf s c l f q d x → list_all (names_register s.program) (targets_of_destination d) ≡ true →
          PutsTo (f.labels q) x v t u → IsRepresented f.symbols rest s (holdings_with c q d v h) (record store { registers = registers_with d v store.registers }) [] u
      put_shown (destination.Target (target.Variable number width)) x is named puts = local_put (local.Variable (record { number = number })) x is puts
      put_shown (destination.Target (target.Register number width)) (into.Register label) is named puts = global_put number label is (within_store number named) v small u puts
      put_shown (destination.Target (target.Register number width)) (into.Place place) is named puts = absurd is
      put_shown (destination.Temporary m) x is named puts = local_put (local.Temporary m) x is puts
