use Rattle.std.proofs.Common.{◌∷◌, [], ℕ, List, Option, ◌∙◌, inl, inr, refl, subst, sym}
use Rattle.cmm_outside.specs.Faults.{Rose}
use Rattle.cmm_outside.specs.Storage.{Contents, StopsWriting, Writes}
use Rattle.cmm_outside.specs.Reads.{AreReadInOrder, Made, ReadCall}
use Rattle.cmm_work.specs.Reads.{image_in}
use Rattle.cmm_work.proofs.converting.convert.Goals as goal

pub returns-in-Ok-write_file-clause-makes : goal.returns-in-Ok-write_file-clause-makes
returns-in-Ok-write_file-clause-makes g c = λ streams.
    let after = g.F.Files.contents c.write_file.new.files in
    let read = c.in-Ok.ensures in
    let wrote = c.in-Ok-write_file.ensures in
    inl record {
      bytes = c.in-Ok.made.items;
      are = read.made;
      written = subst (λ (before : Option Contents). Writes before after c.args.file.now (λ _. c.in-Ok.made.items)) read.same
          (subst (λ (bytes : List ℕ). Writes (g.F.Files.contents c.made_in.new.files) after c.args.file.now (λ _. bytes)) c.deref.ensures.value wrote.ok);
      file_faults = wrote.no_fault ∙ read.no_fault;
      last_failed = wrote.no_failed_call ∙ read.no_failed_call;
      streams = refl;
      no_image = refl;
      ends = record { line = refl; status = refl };
    }

pub returns-clause-makes : goal.returns-clause-makes
returns-clause-makes g c = λ streams.
    let after = g.F.Files.contents c.write_file.new.files in
    let failed = g.F.Files.last_failed c.write_file.new.files in
    let read = c.in-Ok.ensures in
    let stopped = c.in-Err-write_file.ensures in
    inr (inl record {
      bytes = c.in-Ok.made.items;
      are = read.made;
      stops = subst (λ (before : Option Contents). StopsWriting before after failed c.args.file.now c.in-Ok.made.items) read.same
          (subst (λ (bytes : List ℕ). StopsWriting (g.F.Files.contents c.made_in.new.files) after failed c.args.file.now bytes) c.deref.ensures.value stopped.err);
      rose = subst (λ (before : ℕ). Rose before (g.F.Files.faults c.write_file.new.files)) read.no_fault stopped.fault;
      streams = refl;
      no_image = refl;
      ends = record { line = refl; status = refl };
    })

pub returns-in-Ok-write_file-clause-reads : goal.returns-in-Ok-write_file-clause-reads
returns-in-Ok-write_file-clause-reads g c =
    subst (λ (after : Option (List ReadCall)). Made (g.F.Files.reads c.args.files.now) after (AreReadInOrder (image_in c.args.name.now ∷ []))) (sym c.in-Ok-write_file.ensures.same_reads)
    c.in-Ok.ensures.reads

pub returns-clause-reads : goal.returns-clause-reads
returns-clause-reads g c =
    subst (λ (after : Option (List ReadCall)). Made (g.F.Files.reads c.args.files.now) after (AreReadInOrder (image_in c.args.name.now ∷ []))) (sym c.in-Err-write_file.ensures.same_reads)
    c.in-Ok.ensures.reads
