use Rattle.std.proofs.Common.{refl, length}
use Rattle.std.proofs.lemmas.Option.{slice_get_read}
use Rattle.cmm_program.proofs.Shared.{all_get}
use Rattle.cmm_data.specs.Conditions.{IsOnDatum}
use Rattle.cmm_data.proofs.labels.addresses_of.Goals as goal

pub address_of-requires : goal.address_of-requires
address_of-requires c =
    let ls = c.args.labels.now in
    let l = c.label-item.result in
    let is = slice_get_read ls (length ls) c.loop-label.label-index l refl c.loop-label-test.true c.label-item.is in
    record {
      there = all_get (IsOnDatum (length c.args.datums.now)) ls c.loop-label.label-index l c.requires.there is;
      aligned = c.requires.aligned;
      size = c.requires.size;
      ends = c.requires.ends;
    }
