-- Worked rows: the client's answers, with the whole log of each run.
use Rattle.std.proofs.Common.{◌≡◌, refl, [], ◌∷◌}
use Rattle.std.specs.Prelude.{◌++◌, flat_map, codes}
use Rattle.cmm_script.specs.declared.script.Command.TheVariants.{List as ListAll, Youngest, Next, Desc, Seek, Var, Set, Poke, Return, Unwind, Cut, Stop}
use Rattle.cmm_script.specs.declared.script.Value.TheVariants.{Number, Yielded}
use Rattle.cmm_script.specs.Walk.{line, kind_byte, walk_text}
use Rattle.cmm_program.specs.State.{Ended, Done, Stopped}
use Rattle.cmm_program.specs.Walks.{walk_of}
use Rattle.cmm_program.specs.Machine.{state_after}
use Rattle.cmm_program.proofs.Samples.{opened, setting, no_client, client, other, at, seen, logs}
use Rattle.cmm_program.proofs.Commanding.{told, alike}
use Rattle.cmm_program.proofs.Yielding.{spans, unwinding, checked, changing, divide}

spans_run :
    seen (state_after (setting spans 4096 (client (other (Next ∷ Desc 1 ∷ Desc 2 ∷ Desc 3 ∷ Return 0 [] ∷ []) ∷ []))) [] 30)
    ≡ logs (Ended (Done 0)) (
    codes "yield 0" ∷ codes "at main site 0" ∷ codes "desc 11" ∷ codes "desc 20" ∷ codes "desc 0" ∷ codes "resume"
    ∷ codes "yield 0" ∷ codes "at main site 1" ∷ codes "desc 0" ∷ codes "desc 0" ∷ codes "desc 0" ∷ codes "resume"
    ∷ [])
unfolding opened
spans_run = refl

unwinding_runs :
    seen (state_after (setting unwinding 4096 (client (other (ListAll ∷ Next ∷ Unwind 0 (Number 4 ∷ []) ∷ []) ∷ []))) [] 30)
    ≡ logs (Ended (Done 16)) (
    codes "yield 7"
    ∷ codes "activation 0 leaf site 0"
    ∷ codes "var 0 bits64 \"\" 5"
    ∷ codes "activation 1 mid site 0"
    ∷ codes "var 0 bits64 \"count\" dead"
    ∷ codes "var 1 bits64 \"\" 0"
    ∷ codes "var 2 bits64 \"\" 7"
    ∷ codes "var 3 bits64 \"\" dead"
    ∷ codes "activation 2 main site 0"
    ∷ codes "var 0 bits64 \"\" 5"
    ∷ codes "var 1 bits64 \"\" dead"
    ∷ codes "end"
    ∷ codes "at mid site 0"
    ∷ codes "resume"
    ∷ [])
unfolding opened kind_byte
unwinding_runs = refl

refusals_logged :
    seen (state_after (setting unwinding 4096 (client (other (
    Next ∷ Next ∷ Next ∷ Var 2 ∷ Set 0 (Yielded 1) ∷ Cut (Number 5) [] ∷ Poke (codes "d") 0 (Number 1) ∷ Set 0 (Number 100)
    ∷ Return 0 [] ∷ []) ∷ []))) [] 30)
    ≡ logs (Ended (Done 105)) (
    codes "yield 7" ∷ codes "at mid site 0" ∷ codes "at main site 0" ∷ codes "refused 60" ∷ codes "refused 61"
    ∷ codes "refused 69" ∷ codes "refused 67" ∷ codes "refused 68" ∷ codes "ok" ∷ codes "resume" ∷ [])
unfolding opened
refusals_logged = refl

exits_refused :
    seen (state_after (setting unwinding 4096 (client (other (
    Next ∷ Unwind 1 (Number 4 ∷ []) ∷ Unwind 0 [] ∷ Set 0 (Number 1) ∷ Unwind 0 (Number 4 ∷ []) ∷ []) ∷ []))) [] 30)
    ≡ logs (Ended (Done 16)) (
    codes "yield 7" ∷ codes "at mid site 0" ∷ codes "refused 64" ∷ codes "refused 65" ∷ codes "refused 62" ∷ codes "resume" ∷ [])
unfolding opened
exits_refused = refl

checked_runs :
    seen (state_after (setting checked 64 (client (at 1 (Return 0 (Number 9 ∷ []) ∷ []) ∷ []))) [] 10)
    ≡ logs (Ended (Done 19)) (codes "yield 1" ∷ codes "resume" ∷ [])
unfolding opened
checked_runs = refl

-- no block fits: the run is stopped, and its activations can still be walked
checked_stops : seen (state_after (setting checked 64 no_client) [] 10) ≡ logs (Ended Stopped) (codes "yield 1" ∷ [])
unfolding opened
checked_stops = refl

checked_walk :
    walk_text (walk_of (setting checked 64 no_client) (state_after (setting checked 64 no_client) [] 10).store)
    ≡ line (codes "activation 0 main site 0")
    ++ line (codes "var 0 bits64 \"\" 10") ++ line (codes "var 1 bits64 \"\" dead") ++ line (codes "end")
unfolding opened
checked_walk = refl

-- a value that does not fit, and a variable that is invariant; then a change
changes_refused :
    seen (state_after (setting changing 64 (client (other (
    Set 0 (Number 256) ∷ Set 1 (Number 1) ∷ Var 0 ∷ Set 0 (Number 255) ∷ Var 0 ∷ Var 2 ∷ Return 0 (Number 40 ∷ []) ∷ []) ∷ []))) [] 10)
    ≡ logs (Ended (Done 297)) (
    codes "yield 3" ∷ codes "refused 63" ∷ codes "refused 66" ∷ codes "var 0 1" ∷ codes "ok" ∷ codes "var 0 255"
    ∷ codes "var 2 dead" ∷ codes "resume" ∷ [])
unfolding opened
changes_refused = refl

-- an `at` block wins over `other`, and a command at a script's end stops the run
stopped_by_client :
    seen (state_after (setting changing 64 (client (other (Return 0 (Number 1 ∷ []) ∷ []) ∷ at 3 (Youngest ∷ Stop ∷ Var 0 ∷ []) ∷ []))) [] 10)
    ≡ logs (Ended Stopped) (codes "yield 3" ∷ codes "at main site 0" ∷ [])
unfolding opened
stopped_by_client = refl

-- an exported data label, a span whose value is a data label, and an unwind to a handler that writes
divide_runs :
    seen (state_after (setting divide 4096 (client (at 100 (
    ListAll ∷ Return 0 [] ∷ Seek 1 (Number 0x40000008) ∷ Unwind 0 (Yielded 1 ∷ []) ∷ []) ∷ []))) [] 60)
    ≡ record {
      status = Ended (Done 3);
      output = codes "bad\n";
      log = flat_map line (
          codes "yield 100 3"
          ∷ codes "activation 0 divide site 0"
          ∷ codes "var 0 bits64 \"\" dead"
          ∷ codes "var 1 bits64 \"\" dead"
          ∷ codes "activation 1 main site 0"
          ∷ codes "span 1 1073741832"
          ∷ codes "var 0 bits64 \"\" dead"
          ∷ codes "var 1 bits64 \"\" dead"
          ∷ codes "end"
          ∷ codes "refused 64"
          ∷ codes "at main site 0"
          ∷ codes "resume"
          ∷ []);
    }
unfolding opened
divide_runs = refl

-- 8 bytes of data are changed where they all lie in data, at a multiple of 8
pokes :
    seen (state_after (setting divide 4096 (client (at 100 (
    Poke (codes "tag") 16 (Number 1) ∷ Poke (codes "tag") 4 (Number 1) ∷ Poke (codes "msg") 0 (Number 1) ∷ Poke (codes "tag") 8 (Number 6)
    ∷ Stop ∷ []) ∷ []))) [] 60)
    ≡ logs (Ended Stopped) (codes "yield 100 3" ∷ codes "refused 68" ∷ codes "refused 68" ∷ codes "refused 68" ∷ codes "ok" ∷ [])
unfolding opened
pokes = refl

-- a cut to the continuation that the yield tells, the pair in the frame of `main`, 32 bytes below the top
cut_resumes :
    seen (state_after (setting told 64 (client (other (Cut (Yielded 0) [] ∷ Cut (Yielded 0) (Number 41 ∷ []) ∷ []) ∷ []))) [] 10)
    ≡ logs (Ended (Done 42)) (codes "yield 1610616864" ∷ codes "refused 65" ∷ codes "resume" ∷ [])
unfolding opened
cut_resumes = refl

-- the activation at the cursor is sought too, wherever the cursor was moved, and a refusal leaves the cursor
seeks_from_cursor :
    seen (state_after (setting alike 64 (client (other (
    Seek 1 (Number 10) ∷ Seek 1 (Number 10) ∷ Next ∷ Seek 1 (Number 10) ∷ Seek 1 (Number 11) ∷ Desc 1 ∷ Next ∷ Youngest ∷ Next ∷ Seek 2 (Number 0)
    ∷ Stop ∷ []) ∷ []))) [] 10)
    ≡ logs (Ended Stopped) (
    codes "yield 0" ∷ codes "at a site 0" ∷ codes "at a site 0" ∷ codes "at main site 0" ∷ codes "at main site 0" ∷ codes "refused 60"
    ∷ codes "desc 10" ∷ codes "refused 60" ∷ codes "at b site 0" ∷ codes "at a site 0" ∷ codes "at a site 0" ∷ [])
unfolding opened
seeks_from_cursor = refl
