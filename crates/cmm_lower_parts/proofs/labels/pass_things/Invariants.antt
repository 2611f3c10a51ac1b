use Rattle.std.proofs.Common.{map, take}
use Rattle.cmm_symbols.specs.Shown.{alone}
use Rattle.cmm_lower_parts.specs.inside.Passing.{Passes}
use Rattle.cmm_lower_parts.proofs.labels.pass_things.Given as goal

abbrev pub invariant-loop-thing : goal.invariant-loop-thing
invariant-loop-thing l = Passes (map (λ e. e.now) l.links.exports.now) (map alone (take l.thing-index l.things)) l.initial.passed l.passed l.initial.to l.to
