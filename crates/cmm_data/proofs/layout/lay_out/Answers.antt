use Rattle.std.proofs.Common.{◌∙◌}
use Rattle.cmm_data.proofs.Images.{aligned_in, found_addresses, has_procedures, has_size, is_apart, is_data, is_waiting, laid_bytes, laid_fixes, layable_in, size_in, there_in}
use Rattle.cmm_data.proofs.layout.lay_out.Goals as goal

pub ends_of-requires : goal.ends_of-requires
ends_of-requires c =
    let ds = c.as_slice-datums.result.now in
    record {
      aligned = aligned_in c.args.p.now c.requires ds c.as_slice-datums.ensures;
      size = size_in c.args.p.now c.requires ds c.as_slice-datums.ensures;
    }

pub addresses_of-requires : goal.addresses_of-requires
addresses_of-requires c =
    let p = c.args.p.now in
    let ds = c.as_slice-datums.result.now in
    record {
      there = there_in p c.requires ds c.as_slice-datums.ensures c.as_slice.result.now c.as_slice.ensures;
      aligned = aligned_in p c.requires ds c.as_slice-datums.ensures;
      size = size_in p c.requires ds c.as_slice-datums.ensures;
      ends = c.deref.ensures.value ∙ c.in_ok-ends.ensures;
    }

pub image_of-requires : goal.image_of-requires
image_of-requires c =
    let p = c.args.p.now in
    let ds = c.as_slice-datums.result.now in
    let found = found_addresses p c.as_slice-datums.ensures c.as_slice.ensures c.in_ok-addresses.ensures in
    record {
      datums = layable_in p c.requires ds c.as_slice-datums.ensures c.deref-2.result.now (c.deref-2.ensures.value ∙ found);
      size = size_in p c.requires ds c.as_slice-datums.ensures;
    }

pub returns-clause-bytes : goal.returns-clause-bytes
returns-clause-bytes c =
    let found = found_addresses c.args.p.now c.as_slice-datums.ensures c.as_slice.ensures c.in_ok-addresses.ensures in
    is_data c.args.p.now c.requires c.from_vec.result c.from_vec-3.result
    (laid_bytes c.args.p.now c.as_slice-datums.ensures (c.deref-2.ensures.value ∙ found) c.in_ok-image.ensures.bytes c.from_vec.ensures)
    (laid_fixes c.args.p.now c.as_slice-datums.ensures c.in_ok-image.ensures.fixes c.from_vec-3.ensures)

pub returns-clause-size : goal.returns-clause-size
returns-clause-size c =
    let found = found_addresses c.args.p.now c.as_slice-datums.ensures c.as_slice.ensures c.in_ok-addresses.ensures in
    has_size c.args.p.now c.requires c.from_vec.result c.from_vec-3.result
    (laid_bytes c.args.p.now c.as_slice-datums.ensures (c.deref-2.ensures.value ∙ found) c.in_ok-image.ensures.bytes c.from_vec.ensures)
    (laid_fixes c.args.p.now c.as_slice-datums.ensures c.in_ok-image.ensures.fixes c.from_vec-3.ensures)

pub returns-clause-procedures : goal.returns-clause-procedures
returns-clause-procedures c =
    let found = found_addresses c.args.p.now c.as_slice-datums.ensures c.as_slice.ensures c.in_ok-addresses.ensures in
    has_procedures c.args.p.now c.requires c.from_vec.result c.from_vec-3.result
    (laid_bytes c.args.p.now c.as_slice-datums.ensures (c.deref-2.ensures.value ∙ found) c.in_ok-image.ensures.bytes c.from_vec.ensures)
    (laid_fixes c.args.p.now c.as_slice-datums.ensures c.in_ok-image.ensures.fixes c.from_vec-3.ensures)

pub returns-clause-apart : goal.returns-clause-apart
returns-clause-apart c =
    let found = found_addresses c.args.p.now c.as_slice-datums.ensures c.as_slice.ensures c.in_ok-addresses.ensures in
    is_apart c.args.p.now c.requires c.from_vec.result c.from_vec-3.result
    (laid_bytes c.args.p.now c.as_slice-datums.ensures (c.deref-2.ensures.value ∙ found) c.in_ok-image.ensures.bytes c.from_vec.ensures)
    (laid_fixes c.args.p.now c.as_slice-datums.ensures c.in_ok-image.ensures.fixes c.from_vec-3.ensures)

pub returns-clause-waiting : goal.returns-clause-waiting
returns-clause-waiting c =
    let found = found_addresses c.args.p.now c.as_slice-datums.ensures c.as_slice.ensures c.in_ok-addresses.ensures in
    is_waiting c.args.p.now c.requires c.from_vec.result c.from_vec-3.result
    (laid_bytes c.args.p.now c.as_slice-datums.ensures (c.deref-2.ensures.value ∙ found) c.in_ok-image.ensures.bytes c.from_vec.ensures)
    (laid_fixes c.args.p.now c.as_slice-datums.ensures c.in_ok-image.ensures.fixes c.from_vec-3.ensures)
