use Rattle.std.proofs.Common.{subst}
use Rattle.cmm_format.specs.Reading.{Sees}
use Rattle.cmm_image.specs.declared.bounds.Bounds.{Bounds}
use Rattle.cmm_image.specs.ImageFormat.{site_lists}
use Rattle.cmm_image.specs.inside.Wholes.{lists_seen}
use Rattle.cmm_image.proofs.site.tail_in.Goals as goal

pub returns : goal.returns
returns c =
    subst (λ (b : Bounds). Sees lists_seen c.tail.result ((site_lists b.code_length b.frame b.variables b.continuations c.args.return_address).at c.args.reader.now.rest.now) c.tail.new.reader.rest.now)
    c.of-bounds.ensures c.tail.ensures
