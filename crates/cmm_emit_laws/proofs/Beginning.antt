-- The image begins a located run, and follows it.
use Rattle.std.proofs.Common.{◌≡◌, ℕ, zero, suc, ◌+◌, ◌-◌, ◌<◌, ◌≤◌, ◌^◌, refl, sym, ◌∙◌, ap, subst, arith, Bool, true, false, List, [], ◌∷◌, length, Option, Some, None, IsTrue}
use Rattle.std.specs.Prelude.{◌==◌, nat_le, slice_index_or}
use Rattle.std.specs.List.{All}
use Rattle.std.proofs.lemmas.Bool.Decides.{nat_tests}
use Rattle.std.proofs.lemmas.List.{length-map}
use Rattle.std.proofs.lemmas.List.Elements.{All-tail}
use Rattle.rv_table.proofs.Shared.{sound_start}
use Rattle.rv_table.specs.Bounds.{IsSound}
use Rattle.rv_table.specs.Machine as rv
use Rattle.rv_table.specs.Machine.{State, data_base, loaded, top, Region}
use Rattle.rv_asm.proofs.Shared.{leads_of}
use Rattle.cmm_simulation.proofs.Followings.{follows_of_simulates}
use Rattle.cmm_simulation.proofs.Paths.{weaker}
use Rattle.cmm_simulation.specs.Following.{Follows}
use Rattle.cmm_simulation.specs.Observing.{Passes}
use Rattle.cmm_simulation.specs.Seen.{Seen, IsWithin}
use Rattle.cmm_simulation.specs.Simulation.{Leads}
use Rattle.cmm_program.specs.Layout.{data_bytes}
use Rattle.cmm_program.specs.Machine.{first_store}
use Rattle.cmm_program.specs.State.{Setting, stack_top}
use Rattle.cmm_program.specs.Memory.{IsByte}
use Rattle.cmm_graph.specs.declared.number.NodeId.{NodeId}
use Rattle.cmm_graph.specs.declared.node.Node.{Node}
use Rattle.cmm_graph.specs.GraphControl.{in_graph}
use Rattle.cmm_graph.specs.Paths.{node_of}
use Rattle.cmm_graph.specs.Ranges.{is_entry}
use Rattle.cmm_chain.specs.Contents.{LastReturn}
use Rattle.cmm_chain.specs.Running.{none_known}
use Rattle.cmm_effects.proofs.Shared.{reaches_sound}
use Rattle.cmm_effects.specs.Changes.{PutsRegister}
use Rattle.cmm_select.specs.Laws.{SwitchesLead}
use Rattle.cmm_image_machine.specs.Changes.{at_pc}
use Rattle.cmm_image_machine.specs.Machine.{Launch, Run, Running, first_memory, first_run, map_of, region_of}
use Rattle.cmm_image_machine.specs.Observed.{image_machine}
use Rattle.cmm_emit_laws.proofs.SimulatedMachines.{image_is_quiet}
use Rattle.cmm_emit_laws.specs.Outside.{Outside, run_with, seen_outside}
use Rattle.cmm_emit_laws.proofs.StartingStates.{starts_are_shown}
use Rattle.cmm_emit_laws.specs.StateLaws.{Begins}
use Rattle.cmm_located.specs.Compiled.{Compiled, Located}
use Rattle.cmm_located.specs.LocatedMachine.{located_machine, located_start, located_step, tokens_at}
use Rattle.cmm_emit_laws.proofs.Landing.{first_holds, has_tokens, inside_entry}
use Rattle.cmm_emit_laws.proofs.Simulating.{code_around, images_simulate_located_runs}
use Rattle.cmm_emit_laws.specs.Finished.{Finished}
use Rattle.cmm_emit_laws.specs.Laws.{CodeBegins, ImagesFollowLocatedRuns, IsRepresentedIn, most_for_step}
use Rattle.cmm_emit_laws.specs.ProgramCode.{IsCode, IsCodeAround}
use Rattle.cmm_emit_laws.specs.Standing.{IsOfRun, Stands}
use Rattle.cmm_emit_laws.specs.Starting.{StartCode}
use Rattle.cmm_emit_laws.specs.Represented.{stack_region}
use Rattle.cmm_abi.specs.Regions.{global_address}
use Rattle.cmm_emit_laws.proofs.Regions.{top_is}

-- ---- the first memory

byte_fits : (bytes : List ℕ) (k : ℕ) → All IsByte bytes → slice_index_or bytes k 0 < 256
byte_fits [] k all = omega arith
byte_fits (byte ∷ bytes) zero all = all 0 0 (omega arith)
byte_fits (byte ∷ bytes) (suc k) all = byte_fits bytes k (All-tail IsByte byte bytes all)

past_end : (bytes : List ℕ) (k : ℕ) → length bytes ≤ k → slice_index_or bytes k 0 ≡ 0
past_end [] k past = refl
past_end (byte ∷ bytes) zero past = absurd (omega (arith, past))
past_end (byte ∷ bytes) (suc k) past = past_end bytes k (omega (arith, past))

zeros_loaded : (memory : ℕ → ℕ) (a n : ℕ) → ((i : ℕ) → i < n → memory (a + i) ≡ 0) → loaded memory a n ≡ 0
zeros_loaded memory a zero zeros = refl
zeros_loaded memory a (suc n) zeros =
    let first : memory a ≡ 0 = ap memory (omega arith) ∙ zeros 0 (omega arith) in
    let rest : loaded memory (a + 1) n ≡ 0 = zeros_loaded memory (a + 1) n (λ i less. ap memory (omega arith) ∙ zeros (suc i) (omega (arith, less))) in
    omega (arith, first, rest)

-- ---- nothing is seen at first

pub nothing_within : (seen : Seen ℕ) → IsWithin (record { output = []; log = []; taken = [] }) seen
nothing_within seen = record {
  output = record { rest = seen.output; whole = refl };
  log = record { rest = seen.log; whole = refl };
  taken = record { rest = seen.taken; whole = refl };
}

-- what represents a state follows the run from there on
pub shown_follows : (lead : SwitchesLead) (s : Setting) (c : Compiled) (l : Launch) (f : Finished) → IsCode s c l f → (rest : ℕ → ℕ) (at : Located) (u : Run) → IsRepresentedIn s c l f rest at u →
    Follows (located_machine s c) (most_for_step s c) (image_machine l) (λ run. 1) at u
shown_follows lead s c l f code rest at u is_shown = follows_of_simulates (images_simulate_located_runs lead s c l f code rest) is_shown

module _ (s : Setting) (c : Compiled) (l : Launch) (f : Finished) (code : IsCodeAround s c l f) (input : List ℕ) (is_bytes : All IsByte input) where
  abbrev start : Located
  start = located_start s c input

  -- ---- the start

  module _ (begins : StartCode s c l f) where
    abbrev begun : State
    begun = at_pc l.image.start (rv.start (region_of l) (first_memory l.image))

    begun_byte : (a : ℕ) → first_memory l.image a < 2 ^ 8
    begun_byte a = by (nat_le data_base a)
      where
        by : (test : Bool) → elim test as (λ _. ℕ) [ true ↦ slice_index_or l.image.initial (a - data_base) 0 | false ↦ 0 ] < 2 ^ 8
        by true = byte_fits l.image.initial (a - data_base) begins.bytes
        by false = omega arith

    begun_sound : IsSound begun
    begun_sound =
        let sound = sound_start (region_of l) (first_memory l.image) (subst (λ (r : Region). top r < 2 ^ 64) begins.region code.is_for.lies.narrow) begun_byte in
        record { registers = sound.registers; zero = sound.zero; memory = sound.memory }

    global_byte : (r i : ℕ) → r < length s.program.globals → i < 8 → first_memory l.image (global_address (stack_region s) r + i) ≡ 0
    global_byte r i less under =
        let above : nat_le data_base (global_address (stack_region s) r + i) ≡ true = (let low = code.is_for.region in grind (arith, nat_tests, low)) in
        rw (first_memory, above) (past_end l.image.initial (global_address (stack_region s) r + i - data_base) (omega (arith, code.is_for.region)))

    data_byte : (i : ℕ) → first_memory l.image (data_base + i) ≡ slice_index_or (data_bytes s.program s.placement) i 0
    data_byte i =
        let above : nat_le data_base (data_base + i) ≡ true = grind (arith, nat_tests) in
        let same : data_base + i - data_base ≡ i = omega arith in
        rw (first_memory, above, same) (ap (λ (xs : List ℕ). slice_index_or xs i 0) begins.is_data)

    begins_so : (u : State) → PutsRegister 1 f.symbols.last_return begun u → Begins f.symbols s u
    begins_so u puts = record {
      zero = puts.1 0 refl;
      back = puts.0;
      frame = puts.1 2 refl ∙ ap top (sym begins.region) ∙ top_is s (map_of l) code.is_for;
      region = puts.1 4 refl ∙ ap (λ (r : Region). r.address) (sym begins.region);
      few = begins.few_registers;
      globals = λ r less. ap (λ (memory : ℕ → ℕ). loaded memory (global_address (stack_region s) r) 8) puts.2
          ∙ zeros_loaded (first_memory l.image) (global_address (stack_region s) r) 8 (λ i under. global_byte r i less under);
      data_bytes = λ i less. ap (λ (memory : ℕ → ℕ). memory (data_base + i)) puts.2 ∙ data_byte i;
    }

    -- ---- at the Entry of `main`

    abbrev pub start_at : NodeId → Located
    start_at n = record {
      store = first_store s input;
      holdings = record { point = record { at = stack_top s; back = LastReturn; kept = none_known }; temps = none_known; contents = none_known };
      procedure = s.program.main;
      node = n;
      carried = [];
    }

    pub start_is : start ≡ start_at begins.first
    start_is = ap (λ (o : Option NodeId). start_at (elim o as (λ _. NodeId) [ Some n ↦ n | None ↦ record { number = 0 } ])) begins.is_first

    pub entry : (node : Node) × (in_graph c.graphs s.program.main (λ g. node_of g begins.first) ≡ Some node) × IsTrue (is_entry node.kind)
    entry = first_holds c.graphs s.program.main (code.valid s.program.main) begins.first begins.is_first

    stands_first : (u : State) → u.pc ≡ f.node_at s.program.main begins.first → PutsRegister 1 f.symbols.last_return begun u → IsSound u → Stands s c l f (first_memory l.image) (start_at begins.first) u
    stands_first u pc puts sound = record {
      running = refl;
      node = entry.0;
      there = entry.1;
      inside = inside_entry entry.0.kind entry.2 (start_at begins.first);
      shown = starts_are_shown f.symbols (first_memory l.image) s (map_of l) input u code.is_for (begins_so u puts) (λ a lacks out. ap (λ (memory : ℕ → ℕ). memory a) puts.2);
      pc = pc;
      sound = sound;
    }

    first_of_run : IsOfRun s c start
    first_of_run = record {
      tokens =
          let e : tokens_at s c (start_at begins.first) ≡ entry.0.tokens = ap (λ (o : Option Node). elim o as (λ _. ℕ) [ Some node ↦ node.tokens | None ↦ 0 ]) entry.1 in
          let some : 1 ≤ entry.0.tokens = has_tokens c.graphs s.program.main (code.valid s.program.main) begins.first entry.0 entry.1 in
          subst (λ (z : Located). 1 ≤ tokens_at s c z) (sym start_is) (omega (arith, e, some));
      registers = length-map {B = ℕ} s.program.globals (λ g. 0);
      bytes = is_bytes;
      are_bare = refl;
    }

    abbrev first_outside : Outside
    first_outside = record { input = input; taken = []; output = []; log = []; status = Running }

    shown_first : (u : State) → (u.pc ≡ f.node_at s.program.main begins.first) × PutsRegister 1 f.symbols.last_return begun u → IsSound u →
        IsRepresentedIn s c l f (first_memory l.image) start (run_with first_outside u)
    shown_first u there sound = record {
      outside = refl;
      right = refl;
      holds = first_of_run;
      running = λ going. subst (λ (z : Located). Stands s c l f (first_memory l.image) z u) (sym start_is) (stands_first u there.0 there.1 sound);
      over = λ outcome ended. absurd (cc);
    }

    pub shown_at_start : Leads (image_machine l) (λ run. 1) (Passes (located_machine s c) (image_machine l) start)
        (IsRepresentedIn s c l f (first_memory l.image) start) 0 begins.most (first_run l input)
    shown_at_start =
        leads_of (located_machine s c) (image_machine l) (map_of l) (run_with first_outside) (seen_outside first_outside) (image_is_quiet l first_outside refl) start
        (nothing_within ((located_machine s c).seen (located_step s c start)))
        0 begins.most begun (λ u. ((u.pc ≡ f.node_at s.program.main begins.first) × PutsRegister 1 f.symbols.last_return begun u) × IsSound u) (IsRepresentedIn s c l f (first_memory l.image) start)
        (reaches_sound (begins.calls.go begun begun_sound refl tt) begun_sound)
        (λ u there. shown_first u there.0 there.1)

pub code_begins : CodeBegins
code_begins s c l f input code begins is_bytes = shown_at_start s c l f (code_around s c l f code) input is_bytes begins

pub images_follow_located_runs : SwitchesLead → ImagesFollowLocatedRuns
images_follow_located_runs lead s c l f input code begins is_bytes =
    weaker (code_begins s c l f input code begins is_bytes) (λ v passes. passes) (λ v is_shown. shown_follows lead s c l f code (first_memory l.image) (located_start s c input) v is_shown)
    (omega arith) (λ n le. le)
