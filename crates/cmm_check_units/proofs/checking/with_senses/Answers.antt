use Rattle.std.proofs.Common.{◌≡◌, ◌∙◌, List, [], ◌∷◌, ap, map, refl, sym}
use Rattle.std.proofs.lemmas.Iterator.{YieldsList-from_zip}
use Rattle.std.proofs.lemmas.Iterator.Adapters.{YieldsList-from_vec}
use Rattle.std.proofs.lemmas.Iterator.Consumers.{YieldsList-end}
use Rattle.cmm_static_semantics.specs.declared.sense.Sense.{Sense}
use Rattle.cmm_check_units.specs.declared.unit_names.UnitNames.{UnitNames}
use Rattle.cmm_check_units.specs.inside.Units.{checked_unit}
use Rattle.cmm_check_units.proofs.checking.with_senses.Goals as goal

paired : (xs : List (UnitNames × List Sense)) → map checked_unit (map (λ x. (x.0, x.1)) xs) ≡ map checked_unit xs
paired [] = refl
paired (x ∷ xs) = ap (λ us. checked_unit x ∷ us) (paired xs)

pub returns : goal.returns
returns c =
    let e = YieldsList-end (YieldsList-from_zip (YieldsList-from_vec c.args.named (cc) (cc)) (YieldsList-from_vec c.args.senses (cc) (cc))) c.loop-names.yielded _ c.loop-names.yielded_by _
    c.next.new.self c.in-None.is c.next.ensures.steps in
    c.loop-names.invariant ∙ sym (paired c.loop-names.yielded) ∙ ap (map checked_unit) e.0
