use Rattle.std.proofs.Common.{map}
use Rattle.cmm_lower_parts.proofs.Passing.{data_passes}
use Rattle.cmm_lower_parts.proofs.labels.pass_datum.Goals as goal

pub returns-in-Data : goal.returns-in-Data
returns-in-Data c =
    data_passes (map (λ e. e.now) c.args.links.now.exports.now) c.args.datum.now c.in-Data.width c.in-Data.count c.in-Data.initial c.args.passed c.args.to.now c.pass_data.new.to c.pass_data.result
    c.in-Data.is c.pass_data.ensures.labels c.pass_data.ensures.waiting c.pass_data.ensures.datum
