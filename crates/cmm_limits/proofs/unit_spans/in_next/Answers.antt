use Rattle.std.proofs.Common.{◌≡◌, [], ap, ◌∙◌}
use Rattle.cmm_static_semantics.specs.Items.{parts_in}
use Rattle.cmm_static_semantics.specs.Limits.{site_tokens}
use Rattle.cmm_static_semantics.specs.Statements.{scope_of}
use Rattle.cmm_static_semantics.proofs.Shared.{on_ok}
use Rattle.cmm_limits.specs.Capped.{capped}
use Rattle.cmm_limits.proofs.Spans.{from_ok}
use Rattle.cmm_limits.proofs.unit_spans.in_next.Goals as goal

pub returns-in-Some-clause-left : goal.returns-in-Some-clause-left
returns-in-Some-clause-left g c = on_ok c.in_proc.result (λ kept. λ p rest is. cc (c.in-Some.ensures.some)) c.in_proc.ensures.tokens

pub returns-in-Some-clause-sum : goal.returns-in-Some-clause-sum
returns-in-Some-clause-sum g c = let names = g.N.Names.senses c.args.names.now in
    from_ok c.in_proc.result (λ sum adds. λ p rest is around has.
    let same : c.in-Some.own.now ≡ p = cc (c.in-Some.ensures.some) in
    adds around has ∙ ap (λ q. capped (site_tokens (scope_of names q) around (parts_in [] q.body))) same) c.in_proc.ensures.sum

pub returns-in-None-clause-left : goal.returns-in-None-clause-left
returns-in-None-clause-left g c = λ p rest is. cc (c.in-None.ensures.none)

pub returns-in-None-clause-sum : goal.returns-in-None-clause-sum
returns-in-None-clause-sum g c = λ p rest is around has. cc (c.in-None.ensures.none)
