use Rattle.cmm_emit.specs.LaidProcedures.{HaveCodesIn, HaveLabelsIn}
use Rattle.cmm_emit.proofs.procedure_code.lay_procedures.Given as goal

-- the procedures so far are laid
abbrev pub invariant-loop-number : goal.invariant-loop-number
invariant-loop-number l = record {
  labels : HaveLabelsIn l.program l.graphs l.outline l.number l.asm.labels;
  codes : HaveCodesIn l.program l.graphs l.outline l.number l.asm.parts;
}
