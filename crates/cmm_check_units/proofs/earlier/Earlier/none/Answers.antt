use Rattle.std.proofs.Common.{[], List, ap, subst, sym}
use Rattle.std.specs.List.{AllZip}
use Rattle.cmm_static_semantics.specs.declared.sense.Sense.{Sense}
use Rattle.cmm_static_semantics.specs.Senses.{is_there}
use Rattle.cmm_check_units.specs.inside.Units.{AreSensed}
use Rattle.cmm_check_units.proofs.earlier.Earlier.none.Goals as goal

pub returns : goal.returns
returns c = λ program. record {
  links = λ x. ap is_there (c.new.ensures x);
  registers = c.new-2.ensures;
  senses = subst (λ (q : List (List Sense)). AllZip (AreSensed program) [] q) (sym c.new-3.ensures) tt;
  sums = c.none.ensures program;
}
