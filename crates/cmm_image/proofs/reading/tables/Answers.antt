use Rattle.std.proofs.Common.{subst}
use Rattle.cmm_format.specs.Formats.{Front}
use Rattle.cmm_format.specs.Reading.{Reads}
use Rattle.cmm_image.specs.ImageFormat.{Tables}
use Rattle.cmm_image.proofs.WholeLaws.{first_there, second_there}
use Rattle.cmm_image.proofs.reading.tables.Goals as goal

pub returns-then-header-eq-SECOND_VERSION : goal.returns-then-header-eq-SECOND_VERSION
returns-then-header-eq-SECOND_VERSION c =
    subst (λ (front : Front Tables). Reads c.second_tables.result front c.second_tables.new.reader.rest.now)
    (second_there c.args.header.now c.args.bounds.code_length c.args.reader.now.rest.now c.if-header-eq-SECOND_VERSION.true c.requires) c.second_tables.ensures

pub returns : goal.returns
returns c =
    subst (λ (front : Front Tables). Reads c.first_tables.result front c.first_tables.new.reader.rest.now)
    (first_there c.args.header.now c.args.bounds.code_length c.args.reader.now.rest.now c.if-header-eq-SECOND_VERSION.false c.requires) c.first_tables.ensures
