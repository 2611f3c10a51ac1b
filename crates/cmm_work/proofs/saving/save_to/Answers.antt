use Rattle.std.proofs.Common.{List, ℕ, inl, inr, refl, subst}
use Rattle.cmm_outside.specs.Storage.{StopsWriting, Writes}
use Rattle.cmm_work.proofs.saving.save_to.Goals as goal

pub returns-in-Err-clause-saves : goal.returns-in-Err-clause-saves
returns-in-Err-clause-saves g c = λ first last. inr (inr record { files = record { files = refl; file_faults = refl; last_failed = refl }; ends = record { line = refl; status = refl } })

pub returns-in-Ok-write_file-clause-saves : goal.returns-in-Ok-write_file-clause-saves
returns-in-Ok-write_file-clause-saves g c = λ first last.
    let wrote = c.in-Ok-write_file.ensures in
    inl record {
      bytes = c.in-Ok.bytes.items;
      snapshot = c.in-Ok.ensures;
      written = subst (λ (bytes : List ℕ). Writes (g.F.Files.contents c.args.files.now) (g.F.Files.contents c.write_file.new.files) c.args.name.now (λ _. bytes)) c.deref.ensures.value wrote.ok;
      file_faults = wrote.no_fault;
      last_failed = wrote.no_failed_call;
      ends = record { line = refl; status = refl };
    }

pub returns-clause-saves : goal.returns-clause-saves
returns-clause-saves g c = λ first last.
    let stopped = c.in-Err-write_file.ensures in
    inr (inl record {
      bytes = c.in-Ok.bytes.items;
      snapshot = c.in-Ok.ensures;
      stops = subst (λ (bytes : List ℕ). StopsWriting (g.F.Files.contents c.args.files.now) (g.F.Files.contents c.write_file.new.files) (g.F.Files.last_failed c.write_file.new.files) c.args.name.now bytes)
          c.deref.ensures.value stopped.err;
      rose = stopped.fault;
      ends = record { line = refl; status = refl };
    })
