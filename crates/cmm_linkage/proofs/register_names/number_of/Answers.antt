use Rattle.std.proofs.Common.{◌∙◌, sym, ap}
use Rattle.std.specs.Prelude.{bytes_eq, unwrap_or}
use Rattle.cmm_linkage.proofs.Gathering.{position_map}
use Rattle.cmm_linkage.proofs.register_names.number_of.Goals as goal

pub returns-in-Some : goal.returns-in-Some
returns-in-Some c = ap (λ o. unwrap_or o 0) (c.in-Some.ensures.index ∙ sym (position_map (λ k. k.now) (bytes_eq c.args.name.now) c.args.names.now.keys))

pub returns-in-None : goal.returns-in-None
returns-in-None c = ap (λ o. unwrap_or o 0) (c.in-None.ensures.index ∙ sym (position_map (λ k. k.now) (bytes_eq c.args.name.now) c.args.names.now.keys))
