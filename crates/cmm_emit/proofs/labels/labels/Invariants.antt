use Rattle.std.proofs.Common.{◌≡◌, ◌++◌, length, false}
use Rattle.std.specs.Prelude.{replicate}
use Rattle.rv_asm.specs.declared.part.Meaning.TheVariants.{Inner}
use Rattle.cmm_emit.specs.Labels.{labels_from}
use Rattle.cmm_emit.proofs.labels.labels.Given as goal

-- those so far
abbrev pub invariant-loop : goal.invariant-loop
invariant-loop l = record {
  made : l.made ≡ labels_from (length l.initial.asm.labels) l.counter;
  labels : l.asm.labels ≡ l.initial.asm.labels ++ replicate l.counter (Inner false);
  parts : l.asm.parts ≡ l.initial.asm.parts;
}
