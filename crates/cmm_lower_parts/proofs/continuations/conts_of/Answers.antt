use Rattle.std.proofs.Common.{ap, ◌∙◌}
use Rattle.std.specs.Prelude.{flat_map}
use Rattle.cmm_static_semantics.specs.Items.{parts_of}
use Rattle.cmm_static_semantics.specs.Scopes.{senses}
use Rattle.cmm_proc_scope.specs.Bodies.{scope_of_body}
use Rattle.cmm_lower_parts.specs.inside.Numbers.{part_conts}
use Rattle.cmm_lower_parts.proofs.Numbered.{conts_same, if_same}
use Rattle.cmm_lower_parts.proofs.continuations.conts_of.Goals as goal

pub returns : goal.returns
returns g c = λ takes.
    let s = scope_of_body g.N.Names.senses c.args.names.now in
    if_same c.conts_in.result c.conts_in.ensures (ap (flat_map (part_conts (senses s))) c.pieces.ensures ∙ conts_same s (parts_of c.args.own.now.body) takes)
