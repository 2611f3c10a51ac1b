use Rattle.std.proofs.Common.{◌≡◌, true, false, sym, ap, subst, ◌∙◌, arith}
use Rattle.cmm_image.specs.declared.parts.ImageParts.{ImageParts}
use Rattle.cmm_image.specs.declared.rows.ProcRow.{ProcRow}
use Rattle.cmm_image.specs.declared.rows.SiteRow.{SiteRow}
use Rattle.cmm_image.specs.ImageFormat.{procedure_at}
use Rattle.cmm_image_machine.specs.Frames.{is_frame}
use Rattle.cmm_image.specs.Sites.{site_numbered}
use Rattle.rv_memory.specs.Regions.{region_of}
use Rattle.cmm_walk.specs.inside.Points.{point_of}
use Rattle.cmm_walk.proofs.Points.{fits_there, lies_inside, none_there, place_short, tested_end, unfit_there}
use Rattle.cmm_walk.proofs.Tables.{procedure_there, site_keeps}
use Rattle.cmm_walk.proofs.chain.found_at.Goals as goal

pub returns-in_default-clause-found : goal.returns-in_default-clause-found
returns-in_default-clause-found c =
    let i = c.args.i.now in
    let r = region_of c.args.m.now in
    let ended = tested_end i r (point_of c.args.p.now) c.parts.result.now.last c.top-top.result c.is_end.result (ap (λ (j : ImageParts). j.last) c.parts.ensures.same) c.top-top.ensures c.is_end.ensures in
    sym (none_there i r (point_of c.args.p.now) (ended ∙ c.if-is_end.false) (sym c.site_of.ensures ∙ c.in_default.is))

pub procedure_at-requires : goal.procedure_at-requires
procedure_at-requires c =
    let i = c.args.i.now in
    let short = place_short i.sites c.args.p.now.address c.in-Some.site (sym c.site_of.ensures ∙ c.in-Some.is) in
    rw c.site_at.ensures.row (procedure_there i (site_numbered i.sites c.in-Some.site) (site_numbered i.sites c.in-Some.site).procedure (site_keeps i c.parts.ensures.kept c.in-Some.site short))

pub returns-then-is_frame-clause-found : goal.returns-then-is_frame-clause-found
returns-then-is_frame-clause-found c =
    let i = c.args.i.now in
    let r = region_of c.args.m.now in
    let n = c.in-Some.site in
    let ended = tested_end i r (point_of c.args.p.now) c.parts.result.now.last c.top-top.result c.is_end.result (ap (λ (j : ImageParts). j.last) c.parts.ensures.same) c.top-top.ensures c.is_end.ensures in
    let found = sym c.site_of.ensures ∙ c.in-Some.is in
    let short = place_short i.sites c.args.p.now.address n found in
    let size : c.procedure_at.result.now.frame ≡ (procedure_at i.procs (site_numbered i.sites n).procedure).frame =
    ap (λ (p : ProcRow). p.frame) (c.procedure_at.ensures.row ∙ ap (λ (s : SiteRow). procedure_at i.procs s.procedure) c.site_at.ensures.row) in
    let fits : is_frame r c.args.p.now.frame (procedure_at i.procs (site_numbered i.sites n).procedure).frame ≡ true =
    subst (λ k. is_frame r c.args.p.now.frame k ≡ true) size (sym (c.is_frame.ensures r c.base-bottom.ensures c.top-top.ensures) ∙ c.if-is_frame.true) in
    rw c.site_at.ensures.row (sym (fits_there i r (point_of c.args.p.now) n (ended ∙ c.if-is_end.false) found short fits))

pub returns-then-is_frame-clause-fits : goal.returns-then-is_frame-clause-fits
returns-then-is_frame-clause-fits c =
    let i = c.args.i.now in
    let r = region_of c.args.m.now in
    let n = c.in-Some.site in
    let short = place_short i.sites c.args.p.now.address n (sym c.site_of.ensures ∙ c.in-Some.is) in
    let size : c.procedure_at.result.now.frame ≡ (procedure_at i.procs c.site_at.result.now.procedure).frame = ap (λ (p : ProcRow). p.frame) c.procedure_at.ensures.row in
    let fits : is_frame r c.args.p.now.frame (procedure_at i.procs c.site_at.result.now.procedure).frame ≡ true =
    subst (λ k. is_frame r c.args.p.now.frame k ≡ true) size (sym (c.is_frame.ensures r c.base-bottom.ensures c.top-top.ensures) ∙ c.if-is_frame.true) in
    let lies = lies_inside _ _ c.args.p.now.frame (procedure_at i.procs c.site_at.result.now.procedure).frame fits in
    let high = lies.1 in
    let top_is = c.top-top.ensures in
    let small = c.top-top.type_inv in
    record {
      there = record { site = short; procedure = ap (λ (s : SiteRow). s.procedure) (sym c.site_at.ensures.row) };
      frame = fits;
      room = omega (arith, high, top_is, small);
      places = c.requires;
    }

pub returns-else-is_frame-clause-found : goal.returns-else-is_frame-clause-found
returns-else-is_frame-clause-found c =
    let i = c.args.i.now in
    let r = region_of c.args.m.now in
    let n = c.in-Some.site in
    let ended = tested_end i r (point_of c.args.p.now) c.parts.result.now.last c.top-top.result c.is_end.result (ap (λ (j : ImageParts). j.last) c.parts.ensures.same) c.top-top.ensures c.is_end.ensures in
    let found = sym c.site_of.ensures ∙ c.in-Some.is in
    let short = place_short i.sites c.args.p.now.address n found in
    let size : c.procedure_at.result.now.frame ≡ (procedure_at i.procs (site_numbered i.sites n).procedure).frame =
    ap (λ (p : ProcRow). p.frame) (c.procedure_at.ensures.row ∙ ap (λ (s : SiteRow). procedure_at i.procs s.procedure) c.site_at.ensures.row) in
    let fits : is_frame r c.args.p.now.frame (procedure_at i.procs (site_numbered i.sites n).procedure).frame ≡ false =
    subst (λ k. is_frame r c.args.p.now.frame k ≡ false) size (sym (c.is_frame.ensures r c.base-bottom.ensures c.top-top.ensures) ∙ c.if-is_frame.false) in
    sym (unfit_there i r (point_of c.args.p.now) n (ended ∙ c.if-is_end.false) found short fits)
