use Rattle.std.proofs.Common.{◌≡◌, List, [], ◌∷◌, ◌++◌, map, subst}
use Rattle.cmm_ast.specs.declared.procedure.Proc.{Proc as ProcTree}
use Rattle.cmm_static_semantics.specs.Items.{SpanTree}
use Rattle.cmm_elaboration.specs.Procedures.{procedure_of}
use Rattle.cmm_elaboration.specs.Sites.{innermost, span_value}
use Rattle.cmm_static_semantics.proofs.Shared.{on_ok}
use Rattle.cmm_lower.specs.Fitting.{ProcFits}
use Rattle.cmm_lower.proofs.units.add_next.Goals as goal

pub returns-in-Some-clause-left : goal.returns-in-Some-clause-left
returns-in-Some-clause-left g c = on_ok c.add_proc.result (λ added. λ p rest is. cc (c.in-Some.ensures.some)) c.add_proc.ensures

pub returns-in-Some-clause-procs : goal.returns-in-Some-clause-procs
returns-in-Some-clause-procs g c = let names = g.N.Names.senses c.args.names.now in
    on_ok c.add_proc.result (λ added. λ p rest is.
    let same : c.in-Some.own.now ≡ p = cc (c.in-Some.ensures.some) in
    subst (λ (q : ProcTree). (spans : List SpanTree) → c.args.around.now ≡ innermost (map (span_value names) spans) → ProcFits names q →
    c.add_proc.new.to ≡ c.args.to.now ++ procedure_of names c.args.unit spans q ∷ []) same added) c.add_proc.ensures

pub returns-in-None-clause-left : goal.returns-in-None-clause-left
returns-in-None-clause-left g c = λ p rest is. cc (c.in-None.ensures.none)

pub returns-in-None-clause-procs : goal.returns-in-None-clause-procs
returns-in-None-clause-procs g c = λ p rest is spans force fits. cc (c.in-None.ensures.none)
