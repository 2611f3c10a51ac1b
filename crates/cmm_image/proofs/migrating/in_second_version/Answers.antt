use Rattle.std.proofs.Common.{◌≡◌, ℕ, List, ◌++◌, Option, subst, ap, ◌∙◌, length, arith}
use Rattle.std.specs.Prelude.{MatchOption}
use Rattle.cmm_image.specs.Migrating.{in_version}
use Rattle.cmm_image.specs.WholeImage.{image}
use Rattle.cmm_image.specs.Migration.{HaveOnePlace, IsFirstDifference}
use Rattle.cmm_image.specs.declared.differing.Difference.{Difference}
use Rattle.cmm_image.proofs.MigratingLaws.{is_image_in_second, procedures_are_there}
use Rattle.cmm_image.proofs.migrating.in_second_version.Goals as goal

pub first_difference-requires : goal.first_difference-requires
first_difference-requires c = rw (c.len.ensures, c.as_slice.ensures) (procedures_are_there c.args.image c.requires)

pub returns-clause-spelled : goal.returns-clause-spelled
returns-clause-spelled c =
    let i = c.args.image in
    let bytes = image.spelled (in_version 2 i) in
    let one : HaveOnePlace i.sites =
    subst HaveOnePlace c.as_slice.ensures
    (subst (λ (found : Option Difference). MatchOption found (HaveOnePlace c.as_slice.result.now) (λ at. IsFirstDifference c.as_slice.result.now at.site at.variable))
    c.in_default.is c.in_ok-at.ensures) in
    let written : c.put_image.new.out.items ≡ bytes = c.in_ok-put_image.ensures ∙ ap (λ (t : List ℕ). t ++ bytes) c.new-bytes.ensures.items in
    let not_long = c.if-len-gt-IMAGE_LIMIT.false in
    let long = c.len-2.ensures in
    record { is_image = is_image_in_second i c.requires one (omega (arith, not_long, long, ap length written)); spelled = written }
