use Rattle.std.proofs.Common.{◌≡◌, ℕ, length, ap, ◌∙◌, arith}
use Rattle.std.proofs.lemmas.Result.{on_ok_weaker}
use Rattle.cmm_image.specs.SecondFormat.{places_among}
use Rattle.cmm_image.specs.inside.SecondSpellings.{read_all}
use Rattle.cmm_image.proofs.SecondByteLaws.{places_long, record_put}
use Rattle.cmm_image.proofs.second_bytes.put_record.Goals as goal

pub put_front-requires : goal.put_front-requires
put_front-requires c =
    let n = length c.args.procedure.now.variables in
    let sites = read_all c.args.sites.now in
    let are : c.as_slice.result.now ≡ places_among n sites = c.as_slice.ensures.value ∙ c.in_ok-places.ensures ∙ ap (λ (m : ℕ). places_among m sites) c.len-variables.ensures in
    omega (arith, ap length are, places_long n sites)

pub returns : goal.returns
returns c =
    on_ok_weaker c.put_u8.result
    (record_put c.args.procedure.now (read_all c.args.sites.now) c.len-variables.result c.as_slice.result.now c.args.out.now.items c.put_front.new.out.items
    c.put_live_sites.new.out.items c.put_u8.new.out.items c.len-variables.ensures (c.as_slice.ensures.value ∙ c.in_ok-places.ensures) c.in_ok-put_front.ensures
    c.in_ok-put_live_sites.ensures)
    c.put_u8.ensures
