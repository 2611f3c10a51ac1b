-- A worked row: the premises of the laws hold of a small program, so the laws say something.
--     main() { return (7); }
use Rattle.std.proofs.Common.{ℕ, ◌+◌, ◌==◌, refl, arith, true, false, [], ◌∷◌, inr, None}
use Rattle.cmm_chain.specs.Contents.{LastReturn}
use Rattle.cmm_chain.specs.Plans.{Plan}
use Rattle.cmm_chain.specs.Running.{Holdings, none_known}
use Rattle.cmm_chain.specs.declared.frame.Location.TheVariants.{Slot}
use Rattle.cmm_program.specs.State.{Setting, Activation}
use Rattle.cmm_program.specs.Machine.{first_store}
use Rattle.cmm_program.proofs.Shared as sample
use Rattle.cmm_program.proofs.Shared.{frame, no_client, opened, procedure, program, setting}
use Rattle.rv_table.specs.Machine.{MemoryMap, State}
use Rattle.rv_table.specs.declared.memory_map.TheConstants.{BELOW_STACK}
use Rattle.cmm_emit_laws.specs.Words.{Symbols}
use Rattle.cmm_emit_laws.specs.Represented.{IsFor, IsMade, IsRepresented}
use Rattle.cmm_emit_laws.specs.StateLaws.{Begins}
use Rattle.cmm_emit_laws.proofs.StartingStates.{starts_are_shown}

abbrev small : Setting
small = setting (sample.sample (program (procedure [] 9 0 0 [] [] ∷ [])) (frame 16 ∷ [])) 4096 no_client

abbrev map : MemoryMap
map = record { code = []; data_length = 0; region_length = BELOW_STACK + 4096 }

abbrev symbols : Symbols
symbols = record { return_to = λ q site. 0x10100; landing_of = λ q k. 0x10200; last_return = 0x10004 }

abbrev registers_at_start : ℕ → ℕ
registers_at_start r = elim (r == 1) [ true ↦ 0x10004 | false ↦ elim (r == 2) [ true ↦ 0x60002000 | false ↦ elim (r == 4) [ true ↦ 0x60000000 | false ↦ 0 ] ] ]

abbrev first : State
first = record { pc = 0x10010; registers = registers_at_start; memory = λ a. 0 }

is_for : IsFor small map
unfolding opened
is_for = record {
  set = record { placed = record { rows = refl; ascending = refl }; aligned = refl };
  lies = record { low = omega arith; high = omega arith; narrow = omega arith; aligned = refl };
  small = omega arith;
  data_length = refl;
  region = omega arith;
  code = omega arith;
}

begins : Begins symbols small first
unfolding opened
begins = record {
  zero = refl;
  back = refl;
  frame = refl;
  region = refl;
  few = omega arith;
  globals = λ r less. absurd (omega arith);
  data_bytes = λ i less. absurd (omega arith);
}

abbrev at_start : Holdings
at_start = record { point = record { at = 0x60002000; back = LastReturn; kept = none_known }; temps = none_known; contents = none_known }

row_start : IsRepresented symbols (λ a. 0) small at_start (first_store small []) [] first
unfolding opened
row_start = starts_are_shown symbols (λ a. 0) small map [] first is_for begins (λ a lacks out. refl)

-- the frame of `main`: two words, of which the second has the return address
abbrev plan : Plan
plan = record {
  frame = λ q. record { size = 16; return_at = 8; saved = []; pairs = []; stack = [] };
  place = λ q v. Slot 0;
  live = λ q site v. false;
  is_procedure = λ q. q == 0;
}

abbrev main_called : Activation
main_called = record { procedure = 0; variables = []; site = None }

row_made : IsMade symbols small plan 0 main_called (record { address = 0x60001FF0; cells = [] }) (λ label. label) [] at_start
unfolding opened
row_made = record {
  size = refl;
  fits = omega arith;
  words = (record { aligned = refl; inside = omega arith; clear = λ at i less. inr (omega arith) }, tt);
  saves = refl;
  stackdata = refl;
  count = 0;
  unwritten = refl;
  pairs = refl;
  addresses = tt;
}
