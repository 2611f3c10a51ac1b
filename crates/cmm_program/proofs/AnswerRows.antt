-- Worked rows: a store of two suspended activations is asked by each way of the run-time interface.
use Rattle.std.proofs.Common.{◌≡◌, ℕ, List, [], ◌∷◌, Some, refl}
use Rattle.std.specs.Prelude.{codes, flat_map}
use Rattle.cmm_script.specs.declared.script.Command.{Command}
use Rattle.cmm_script.specs.declared.script.Command.TheVariants.{List as ListAll, Next, Var, Set, Return, Cut, Stop}
use Rattle.cmm_script.specs.declared.script.Value.TheVariants.{Number, Yielded}
use Rattle.cmm_script.specs.Walk.{line, kind_byte}
use Rattle.cmm_words.specs.declared.operators.Op2.TheVariants.{Add}
use Rattle.cmm_program.specs.declared.expression.Expression.TheVariants as e
use Rattle.cmm_program.specs.declared.statement.Form.TheVariants as f
use Rattle.cmm_program.specs.declared.procedure.Proc.{Proc}
use Rattle.cmm_program.specs.State.{Setting, Activation, Store, Waiting}
use Rattle.cmm_program.specs.Exits.{Back, Resumed}
use Rattle.cmm_program.proofs.Samples.{num, local, code, op, is, continuation, call_site, yield_site, procedure, program, frame, frame_with, sample, setting, no_client, opened}
use Rattle.cmm_program.specs.Commands as client
use Rattle.cmm_program.specs.Commands.{Answer, answer_of}
use Rattle.cmm_program.specs.Client.{Landed, store_askable, at_number}

-- main() { bits64 r; r = f(k) also cuts to k; return (r); continuation k(r): return (r + 1); }
abbrev told-main : Proc
told-main = record (procedure (codes "main") 37 0 1 (record (call_site (0 ∷ [])) { cuts = 0 ∷ [] } ∷ []) (
    is 11 (f.Call 0 (code 1) (e.Continuation 0 ∷ []))
    ∷ is 5 (f.Return 0 0 (local 0 ∷ []))
    ∷ is 6 (f.Continuation 0)
    ∷ is 7 (f.Return 0 0 (op Add (local 0) (num 1) ∷ [])) ∷ [])) { conts = continuation (0 ∷ []) ∷ [] }

-- f(bits64 j) { yield(1); return (j); }
abbrev told-f : Proc
told-f = procedure (codes "f") 17 1 1 (yield_site [] 1 ∷ []) (
    is 5 (f.Yield 0 (num 1 ∷ [])) ∷ is 5 (f.Return 0 0 (local 0 ∷ [])) ∷ [])

abbrev told : Setting
told = setting (sample (program (told-main ∷ told-f ∷ [])) (frame_with 32 (0 ∷ []) [] ∷ frame 16 ∷ [])) 4096 no_client

abbrev youngest : Activation
youngest = record { procedure = 1; variables = 9 ∷ []; site = Some 0 }

abbrev oldest : Activation
oldest = record { procedure = 0; variables = 0 ∷ []; site = Some 0 }

abbrev yielding : Store
yielding = record {
  memory = record { data_room = record { address = 0x40000000; cells = [] }; rooms = [] };
  registers = [];
  activations = youngest ∷ oldest ∷ [];
  input = [];
  taken = [];
  output = [];
  log = codes "yield 1\n";
  status = Waiting (1 ∷ []);
}

abbrev answer : List Command → Answer Store Landed
answer commands = answer_of (store_askable told) (1 ∷ []) [] record { activation = at_number told 0 yielding } yielding commands

abbrev says : List (List ℕ) → List ℕ
says lines = flat_map line lines

walked : (answer (ListAll ∷ Next ∷ Var 0 ∷ Next ∷ Stop ∷ [])).text ≡ says (
    codes "activation 0 f site 0"
    ∷ codes "var 0 bits64 \"\" 9"
    ∷ codes "activation 1 main site 0"
    ∷ codes "var 0 bits64 \"\" dead"
    ∷ codes "end"
    ∷ codes "at main site 0"
    ∷ codes "var 0 dead"
    ∷ codes "refused 60"
    ∷ [])
unfolding opened kind_byte
walked = refl

-- a variable of the youngest activation is set, and it returns
returns : answer (Set 0 (Yielded 0) ∷ Var 0 ∷ Return 0 [] ∷ []) ≡ record {
  text = says (codes "ok" ∷ codes "var 0 1" ∷ codes "resume" ∷ []);
  left = client.Running record {
    gone = 0;
    store = record yielding { activations = record youngest { variables = 1 ∷ [] } ∷ oldest ∷ [] };
    landing = Back [];
  };
}
unfolding opened
returns = refl

-- a cut to the pair in the frame of main, which begins 32 bytes below the stack's top
cuts : answer (Cut (Number 5) [] ∷ Cut (Number 0x60001FE0) (Number 3 ∷ []) ∷ []) ≡ record {
  text = says (codes "refused 67" ∷ codes "resume" ∷ []);
  left = client.Running record { gone = 1; store = record yielding { activations = oldest ∷ [] }; landing = Resumed 0 (3 ∷ []) };
}
unfolding opened
cuts = refl
