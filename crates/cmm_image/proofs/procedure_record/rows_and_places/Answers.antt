use Rattle.std.proofs.Common.{◌≡◌, ◌∙◌, map, ap, sym, refl}
use Rattle.std.proofs.lemmas.Iterator.Adapters.{YieldsList-from_vec}
use Rattle.std.proofs.lemmas.Iterator.Consumers.{YieldsList-end}
use Rattle.std.proofs.lemmas.List.{map-id}
use Rattle.cmm_image.proofs.procedure_record.rows_and_places.Goals as goal

pub returns : goal.returns
returns c =
    let e = YieldsList-end (YieldsList-from_vec c.into_vec-variable-items.result.items (cc) (cc)) c.loop-variable.yielded _ c.loop-variable.yielded_by _ c.next.new.self c.in-None.is c.next.ensures.steps in
    let all : c.loop-variable.yielded ≡ c.args.variables = sym (map-id c.loop-variable.yielded) ∙ e.0 ∙ c.into_vec-variable-items.ensures in
    let rows = c.loop-variable.invariant.0 ∙ ap (map (λ v. v.row)) all in
    let places = c.loop-variable.invariant.1 ∙ ap (map (λ v. v.place)) all in
    rw (c.from_vec.ensures, c.from_vec-2.ensures, rows, places) refl
