-- Bounds on steps, frames and code, by counts of tokens.
use Rattle.std.specs.Prelude.{ℕ, ◌+◌, ◌*◌, max, List, [], ◌∷◌}
use Rattle.cmm_program.specs.declared.procedure.Proc.{Proc}
use Rattle.cmm_program.specs.declared.program.Program.{Program}
use Rattle.cmm_program.specs.Layout.{stackdata_size}

abbrev pub longest : List Proc → ℕ
longest [] = 0
longest (p ∷ ps) = max p.tokens (longest ps)

-- how many instructions of the image one step of the machine may take, and the other way round
abbrev pub step_factor : Program → ℕ
step_factor p = 64 * longest p.procs

-- the greatest frame of a procedure, in bytes
abbrev pub frame_bound : Proc → ℕ
frame_bound p = 8 * p.tokens + stackdata_size p.stack + 160

-- the most code that units with n tokens may have, in bytes
abbrev pub code_bound : ℕ → ℕ
code_bound tokens = 256 * tokens + 8192
