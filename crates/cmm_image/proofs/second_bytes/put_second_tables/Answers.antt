use Rattle.std.proofs.Common.{ℕ, List, length, flat_map, ◌++◌, ap, sym, subst, ◌∙◌, append_assoc}
use Rattle.std.specs.Borrow.{Bor}
use Rattle.std.proofs.lemmas.Iterator.{YieldsList-from_slice, YieldsList-from_zip}
use Rattle.std.proofs.lemmas.Iterator.Consumers.{YieldsList-end}
use Rattle.cmm_image.specs.declared.rows.SiteRow.{SiteRow}
use Rattle.cmm_image.specs.inside.SecondSpellings.{AreOwned, read_all, record_bytes, record_with}
use Rattle.cmm_image.proofs.SecondByteLaws.{flat_pushed, owner_bytes, tables_put}
use Rattle.cmm_image.proofs.second_bytes.put_second_tables.Goals as goal

pub loop-procedure-preserved : goal.loop-procedure-preserved
loop-procedure-preserved c =
    c.in_ok-put_record.ensures
    ∙ ap (λ (own : List (Bor SiteRow)). c.loop-procedure.out.items ++ record_bytes (record_with c.in-Some.procedure.now (read_all own))) c.as_slice-in-loop-procedure.ensures
    ∙ ap (λ (t : List ℕ). t ++ owner_bytes (c.in-Some.procedure, c.in-Some.own)) c.loop-procedure.invariant
    ∙ append_assoc c.args.out.now.items (flat_map owner_bytes c.loop-procedure.yielded) (owner_bytes (c.in-Some.procedure, c.in-Some.own))
    ∙ ap (λ (t : List ℕ). c.args.out.now.items ++ t) (sym (flat_pushed owner_bytes c.loop-procedure.yielded (c.in-Some.procedure, c.in-Some.own)))

pub returns : goal.returns
returns c =
    let road = YieldsList-from_zip (YieldsList-from_slice c.args.procedures.now cc) (YieldsList-from_slice c.as_slice.result.now cc) in
    let e = YieldsList-end road c.loop-procedure.yielded _ c.loop-procedure.yielded_by _ c.next.new.self c.in-None.is c.next.ensures.steps in
    let owned = subst (λ (os : List (List (Bor SiteRow))). AreOwned (length c.args.procedures.now) os c.args.sites.now) (sym c.as_slice.ensures.value) c.in_ok-owned.ensures in
    c.loop-procedure.invariant
    ∙ ap (λ (t : List ℕ). c.args.out.now.items ++ t) (tables_put c.args.procedures.now c.as_slice.result.now c.args.sites.now c.loop-procedure.yielded owned e.0)
