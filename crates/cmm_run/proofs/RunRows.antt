-- Worked rows: what small runs come to.
use Rattle.std.proofs.Common.{◌≡◌, ◌<◌, ℕ, List, [], ◌∷◌, ◌++◌, Option, Some, None, IfSome, inl, inr, refl, sym, subst, pos, lit<, lit≤}
use Rattle.std.proofs.lemmas.List.Elements.{All-nil, All-cons}
use Rattle.std.specs.Prelude.{codes, flat_map}
use Rattle.std.specs.Fmt as Fmt
use Rattle.rv_table.specs.declared.instruction.Instr.TheVariants.{Addi, Ecall}
use Rattle.rv_table.specs.declared.trap.TrapKind.TheVariants.{BadTarget}
use Rattle.cmm_script.specs.declared.script.Command.TheVariants.{Next, Return, Set, Stop}
use Rattle.cmm_script.specs.declared.script.Value.TheVariants.{Number}
use Rattle.cmm_script.specs.Walk.{line}
use Rattle.cmm_image.specs.declared.parts.ImageParts.{ImageParts}
use Rattle.cmm_image_machine.specs.Machine.{Launch, image_after}
use Rattle.cmm_image_machine.proofs.Shared.{bare, yielding}
use Rattle.cmm_run.specs.declared.outcome.Outcome.{Outcome}
use Rattle.cmm_run.specs.declared.outcome.Outcome.TheVariants.{Done, Stopped, StepLimit, Trap, InputFault, OutputFault, Torn}
use Rattle.cmm_run.specs.Outside.{Outside}
use Rattle.cmm_run.specs.Runs.{Comes, Fails, FailsAt, Runs}

-- an image whose script has no block
abbrev quiet : ImageParts → Launch
quiet image = record { image = image; script = record { blocks = [] }; stack_size = 4096 }

-- where no call has failed
abbrev outside : List ℕ → List ℕ → List ℕ → Outside
outside input output log = record { input = Some input; input_faults = 0; output = Some output; output_faults = 0; log = Some log; log_faults = 0 }

-- a run of this input stands at the end as the definition has it
abbrev RunsOf : Launch → ℕ → List ℕ → Outside → Outside → Outcome → Type 0
RunsOf l steps input before after outcome = Runs l steps before after outcome (image_after l input steps).machine

-- the input that there is
runs : (l : Launch) (steps : ℕ) (input : List ℕ) (before after : Outside) (outcome : Outcome) → before.input ≡ Some input → Fails before after outcome →
    (outcome ≡ OutputFault → FailsAt l steps input before after) → Comes l steps input before after outcome → RunsOf l steps input before after outcome
runs l steps input before after outcome is fails failed comes = record {
  fails = fails;
  input = input;
  told = subst (λ (t : Option (List ℕ)). IfSome t (λ left. left ≡ input)) (sym is) refl;
  bytes = λ none. absurd (cc (none, is));
  comes = comes;
  failed = failed;
  stopped = λ _. refl;
}

-- two activations; the youngest yields 20 and 7
stops :
    RunsOf (quiet yielding) 300 (9 ∷ []) (outside (9 ∷ []) (1 ∷ []) []) (outside (9 ∷ []) (1 ∷ []) (codes "yield 20 7" ++ 10 ∷ [])) Stopped
unfolding Fmt.digits
stops = runs (quiet yielding) 300 (9 ∷ []) _ _ Stopped refl (record { input = refl; output = refl; log = refl }) (λ is. absurd (cc is))
    (record { answer = refl; shows = record { input = refl; output = refl; log = refl } })

-- the block of 20 gives main's first variable 50 where leaf has saved it, and lets leaf return: 7 + 407 + 50
abbrev answered : Launch
answered = record {
  image = yielding;
  script = record {
    blocks = record { code = None; commands = Stop ∷ []; lines = [] } ∷ record { code = Some 20; commands = Next ∷ Set 0 (Number 50) ∷ Return 1 [] ∷ Stop ∷ []; lines = [] } ∷ [];
  };
  stack_size = 4096;
}

goes_on :
    RunsOf answered 300 [] (outside [] [] []) (outside [] [] (flat_map line (codes "yield 20 7" ∷ codes "at main site 0" ∷ codes "ok" ∷ codes "resume" ∷ []))) (Done 464)
unfolding Fmt.digits
goes_on = runs answered 300 [] _ _ (Done 464) refl (record { input = refl; output = refl; log = refl }) (λ is. absurd (cc is))
    (record { answer = refl; shows = record { input = refl; output = refl; log = refl } })

-- the log fails behind the first 5 bytes of the yield's line
logs_a_front : RunsOf answered 300 [] (outside [] [] []) record (outside [] [] (codes "yield")) { log_faults = 1 } OutputFault
unfolding Fmt.digits
logs_a_front = runs answered 300 [] _ _ OutputFault refl (record { input = refl; output = inr (refl, inl (lit< tt)) })
    (λ _. record { moment = 300; within = lit≤ tt; left = refl; shows = record { output = (0, lit≤ tt, refl); log = (5, lit≤ tt, refl) } })
    (record { output = (0, lit≤ tt, refl); log = (5, lit≤ tt, refl) })

-- it puts A, takes a byte, and ends with it
abbrev taking : Launch
taking = quiet (bare (Addi 5 0 (pos 1) ∷ Addi 10 0 (pos 65) ∷ Ecall ∷ Addi 5 0 (pos 2) ∷ Ecall ∷ Addi 5 0 (pos 5) ∷ Ecall ∷ []))

ends : RunsOf taking 7 (7 ∷ 8 ∷ []) (outside (7 ∷ 8 ∷ []) [] []) (outside (8 ∷ []) (65 ∷ []) []) (Done 7)
ends = runs taking 7 (7 ∷ 8 ∷ []) _ _ (Done 7) refl (record { input = refl; output = refl; log = refl }) (λ is. absurd (cc is))
    (record { answer = refl; shows = record { input = refl; output = refl; log = refl } })

-- with one instruction less it does not end
is_limited : RunsOf taking 6 (7 ∷ 8 ∷ []) (outside (7 ∷ 8 ∷ []) [] []) (outside (8 ∷ []) (65 ∷ []) []) StepLimit
is_limited = runs taking 6 (7 ∷ 8 ∷ []) _ _ StepLimit refl (record { input = refl; output = refl; log = refl }) (λ is. absurd (cc is))
    (record { answer = refl; shows = record { input = refl; output = refl; log = refl } })

-- at the end of the input the byte is all ones
ends_at_the_end : RunsOf taking 7 [] (outside [] [] []) (outside [] (65 ∷ []) []) (Done 0xFFFFFFFFFFFFFFFF)
ends_at_the_end = runs taking 7 [] _ _ (Done 0xFFFFFFFFFFFFFFFF) refl (record { input = refl; output = refl; log = refl }) (λ is. absurd (cc is))
    (record { answer = refl; shows = record { input = refl; output = refl; log = refl } })

-- the byte can't be taken, after the fourth instruction
takes_none : RunsOf taking 7 (7 ∷ []) (outside (7 ∷ []) [] []) record (outside (7 ∷ []) (65 ∷ []) []) { input_faults = 1 } InputFault
takes_none = runs taking 7 (7 ∷ []) _ _ InputFault refl (record { input = inl (lit< tt); output = refl; log = refl }) (λ is. absurd (cc is))
    (4, lit< tt, record { running = refl; asks = refl }, record { input = refl; output = refl; log = refl })

-- A can't be put, and nothing is taken
puts_none : RunsOf taking 7 (7 ∷ []) (outside (7 ∷ []) [] []) record (outside (7 ∷ []) [] []) { output_faults = 1 } OutputFault
puts_none = runs taking 7 (7 ∷ []) _ _ OutputFault refl (record { input = refl; output = inl (inl (lit< tt), refl) })
    (λ _. record { moment = 3; within = lit≤ tt; left = refl; shows = record { output = (0, lit≤ tt, refl); log = (0, lit≤ tt, refl) } })
    (record { output = (0, lit≤ tt, refl); log = (0, lit≤ tt, refl) })

-- behind its only instruction there is no code
traps : RunsOf (quiet (bare (Addi 5 0 (pos 1) ∷ []))) 9 [] (outside [] [] []) (outside [] [] []) (Trap record { kind = BadTarget; pc = 0x10004 })
traps = runs (quiet (bare (Addi 5 0 (pos 1) ∷ []))) 9 [] _ _ (Trap record { kind = BadTarget; pc = 0x10004 }) refl (record { input = refl; output = refl; log = refl }) (λ is. absurd (cc is))
    (record { answer = refl; shows = record { input = refl; output = refl; log = refl } })

-- it yields, and no site has the return address 0
tears : RunsOf (quiet (bare (Addi 5 0 (pos 3) ∷ Ecall ∷ []))) 9 [] (outside [] [] []) (outside [] [] []) (Torn record { frame = 0x60002000; address = 0 })
tears = runs (quiet (bare (Addi 5 0 (pos 3) ∷ Ecall ∷ []))) 9 [] _ _ (Torn record { frame = 0x60002000; address = 0 }) refl
    (record { input = refl; output = refl; log = refl }) (λ is. absurd (cc is)) (record { answer = refl; shows = record { input = refl; output = refl; log = refl } })

-- ---- an input that tells nothing, as a terminal

-- where no call has failed
abbrev untold : List ℕ → Outside
untold output = record { input = None; input_faults = 0; output = Some output; output_faults = 0; log = Some []; log_faults = 0 }

-- the input has given 7, and that explains the run
gives_a_byte : RunsOf taking 7 (7 ∷ []) (untold []) (untold (65 ∷ [])) (Done 7)
gives_a_byte = record {
  fails = record { input = refl; output = refl; log = refl };
  input = 7 ∷ [];
  told = tt;
  bytes = λ _. All-cons (λ (byte : ℕ). byte < 256) 7 [] (lit< tt) (All-nil (λ (byte : ℕ). byte < 256));
  comes = record { answer = refl; shows = record { input = tt; output = refl; log = refl } };
  failed = λ is. absurd (cc is);
  stopped = λ _. refl;
}
