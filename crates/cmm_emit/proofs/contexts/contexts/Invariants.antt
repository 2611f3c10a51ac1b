use Rattle.std.proofs.Common.{◌≡◌, ◌<◌, ℕ, ◌++◌, length, false, slice_get, Some}
use Rattle.std.specs.Prelude.{replicate}
use Rattle.rv_asm.specs.declared.part.Meaning.TheVariants.{Inner}
use Rattle.cmm_graph.specs.declared.graph.Graph.{Graph}
use Rattle.cmm_program.specs.declared.procedure.Proc.{Proc}
use Rattle.cmm_allocate.specs.declared.procedure.ProcedurePlaces.{ProcedurePlaces}
use Rattle.cmm_emit.specs.declared.context.Context.{Context}
use Rattle.cmm_emit.specs.Contexts.{IsMadeFor, first_label}
use Rattle.cmm_emit.proofs.contexts.contexts.Given as goal

-- the contexts so far
abbrev pub invariant-loop-number : goal.invariant-loop-number
invariant-loop-number l = record {
  count : length l.made ≡ l.number;
  each : (n : ℕ) (q : Proc) (g : Graph) (k : ProcedurePlaces) (p : Context) → n < l.number → slice_get l.procedures n ≡ Some q → slice_get l.graphs n ≡ Some g →
      slice_get l.places n ≡ Some k → slice_get l.made n ≡ Some p → IsMadeFor q g k (first_label (length l.initial.asm.labels) l.procedures l.graphs n) p;
  labels : l.asm.labels ≡ l.initial.asm.labels ++ replicate (first_label 0 l.procedures l.graphs l.number) (Inner false);
  parts : l.asm.parts ≡ l.initial.asm.parts;
}
