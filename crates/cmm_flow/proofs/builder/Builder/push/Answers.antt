use Rattle.std.proofs.Common.{◌+◌, ◌∙◌, ap}
use Rattle.cmm_flow.proofs.Laying.{node_laid}
use Rattle.cmm_flow.proofs.builder.Builder.push.Goals as goal

pub returns : goal.returns
returns c =
    node_laid c.args.self.now c.push.new.self (record { tokens = c.args.tokens; kind = c.args.kind }) (record { number = c.in_ok-number.number }) c.in_ok-push.ensures.ok
    (c.in_ok-number.ensures ∙ ap (λ n. c.args.self.now.stop.number + n) (c.in_ok-as_number.ensures ∙ c.len.ensures))
