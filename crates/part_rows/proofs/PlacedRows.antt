-- The program that tests of placements are made with: it is in range.
use Rattle.std.proofs.Common.{◌≡◌, refl, ap₂, ◌∙◌, [], ◌∷◌, Result, Ok, Err, IfOk}
use Rattle.std.specs.declared.alloc.AllocError.{AllocError}
use Rattle.cmm_program.specs.declared.statement.Form.TheVariants as f
use Rattle.cmm_program.specs.declared.procedure.Proc.{Proc}
use Rattle.cmm_program.specs.declared.program.Program.{Program}
use Rattle.cmm_program.specs.InRange.{IsInRange}
use Rattle.cmm_program.proofs.Shared.{opened, continuation, is, procedure, program, program_in_range, stack_bytes, stack_label}

--     main() {}
abbrev pub main_only : Proc
main_only = procedure [] 5 0 0 [] []

--     f() { stackdata { l: bits8[32]; } continuation j: continuation k: }
abbrev pub framed : Proc
framed = record (procedure [] 25 0 0 [] (is 5 (f.Continuation 0) ∷ is 5 (f.Continuation 1) ∷ [])) {
  stack = stack_label 1 ∷ stack_bytes 1 32 ∷ [];
  conts = continuation [] ∷ continuation [] ∷ [];
}

abbrev pub program_of : Proc → Proc → Program
program_of main f = program (main ∷ f ∷ [])

abbrev pub two_procedures : Program
two_procedures = program_of main_only framed

in_range : IsInRange two_procedures
unfolding opened
in_range = program_in_range two_procedures refl

-- the program that is made of two such procedures, if there is memory for it
pub made_in_range : (made : Result Program AllocError) (main f : Proc) → main ≡ main_only → f ≡ framed →
    IfOk made (λ p. p ≡ program_of main f) → IfOk made (λ p. IsInRange p)
made_in_range (Ok p) main f e g h = let is : p ≡ two_procedures = h ∙ ap₂ program_of e g in rw is in_range
made_in_range (Err error) main f e g h = h
