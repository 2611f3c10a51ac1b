use Rattle.std.proofs.Common.{ℕ, ap, ◌∙◌}
use Rattle.std.proofs.Math.Path.{fun_ext}
use Rattle.cmm_abi.specs.declared.registers.TheConstants.{FRAME}
use Rattle.rv_table.specs.Registers.{with_register}
use Rattle.cmm_walk.specs.Activations.{places_of}
use Rattle.rv_memory.specs.States.{state_of}
use Rattle.cmm_resume.proofs.Restoring.{had_is}
use Rattle.cmm_resume.proofs.unwinding.restore.Goals as goal

pub returns-clause-registers : goal.returns-clause-registers
returns-clause-registers c =
    c.write.ensures.register
    ∙ ap (λ (x : ℕ → ℕ). with_register x FRAME c.args.a.now.frame)
    (fun_ext (λ n. c.restore_saved.ensures.each n ∙ had_is (places_of c.args.a.now.saved) (state_of c.args.r.now c.args.m.now) c.had_by-had.result c.had_by-had.ensures n))
