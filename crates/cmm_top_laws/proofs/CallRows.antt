-- A call for which nothing is said can run.
use Rattle.std.proofs.Common.{ℕ, List, [], ◌∷◌, Some, refl, arith}
use Rattle.std.proofs.lemmas.List.Elements.{All-cons, All-nil}
use Rattle.cmm_program.specs.Memory.{IsByte}
use Rattle.cmm_run.specs.Outside.{Outside as Streams}
use Rattle.cmm_top.specs.Generating.{usual_limits}
use Rattle.cmm_top_laws.specs.Calls.{CanRun}

-- the input has two bytes, and nothing is written yet
abbrev input : List ℕ
input = 104 ∷ 105 ∷ []

abbrev streams : Streams
streams = record { input = Some input; input_faults = 0; output = Some []; output_faults = 0; log = Some []; log_faults = 0 }

row_usual : CanRun usual_limits streams
row_usual = record {
  stack = (refl, omega arith);
  bytes = All-cons IsByte 104 (105 ∷ []) (omega arith) (All-cons IsByte 105 [] (omega arith) (All-nil IsByte));
}
