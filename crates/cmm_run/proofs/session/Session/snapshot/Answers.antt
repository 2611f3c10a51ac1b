use Rattle.std.proofs.Common.{◌∙◌, ◌≡◌, ℕ, ap, subst, sym}
use Rattle.std.specs.Prelude.{◌%◌}
use Rattle.cmm_abi.specs.Regions.{Region}
use Rattle.cmm_client.specs.declared.stopped.Thread.{Thread}
use Rattle.cmm_run.proofs.session.Session.snapshot.Goals as goal

-- the stack is that which was loaded
pub write_snapshot-requires-clause-stack : goal.write_snapshot-requires-clause-stack
write_snapshot-requires-clause-stack c =
    let of_run = c.self.invariant.0 in
    subst (λ (n : ℕ). n % 16 ≡ 0) (sym (ap (λ (t : Thread). t.memory.stack_size) c.running-thread.ensures ∙ ap (λ (r : Region). r.stack_size) of_run.region)) of_run.aligned
