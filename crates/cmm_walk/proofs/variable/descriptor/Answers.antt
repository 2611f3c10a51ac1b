use Rattle.std.proofs.Common.{◌≡◌, ◌==◌, find, Some, None, refl, sym, ap, ◌∙◌, rules, tests}
use Rattle.std.specs.Option.{option_map}
use Rattle.std.proofs.lemmas.Iterator.{YieldsList-from_slice}
use Rattle.std.proofs.lemmas.Iterator.Search.{find_from_yields_List}
use Rattle.cmm_image.specs.declared.rows.SiteRow.{SiteRow}
use Rattle.cmm_image.specs.declared.rows.SpanRow.{SpanRow}
use Rattle.cmm_image.specs.Sites.{site_numbered}
use Rattle.cmm_walk.proofs.Variables.{descriptor_is}
use Rattle.cmm_walk.proofs.variable.descriptor.Goals as goal

pub returns-in-Some : goal.returns-in-Some
returns-in-Some c =
    let spans = c.site_at.result.now.spans in
    let found = find_from_yields_List (λ (s : SpanRow). c.args.token == s.token) _ _ c.find.result c.find.ensures.ran (YieldsList-from_slice spans cc) (λ x b q k. search (rules, tests)) in
    let is : find (λ (s : SpanRow). c.args.token == s.token) (site_numbered c.args.i.now.sites c.args.a.now.site).spans ≡ Some c.in-Some.span.now =
    ap (λ (s : SiteRow). find (λ (t : SpanRow). c.args.token == t.token) s.spans) (sym c.site_at.ensures.row) ∙ sym found ∙ ap (option_map (λ x. x.now)) c.in-Some.is in
    descriptor_is c.args.token c.in-Some.span.now.value (site_numbered c.args.i.now.sites c.args.a.now.site).spans (Some c.in-Some.span.now) is refl

pub returns-in-None : goal.returns-in-None
returns-in-None c =
    let spans = c.site_at.result.now.spans in
    let found = find_from_yields_List (λ (s : SpanRow). c.args.token == s.token) _ _ c.find.result c.find.ensures.ran (YieldsList-from_slice spans cc) (λ x b q k. search (rules, tests)) in
    let is : find (λ (s : SpanRow). c.args.token == s.token) (site_numbered c.args.i.now.sites c.args.a.now.site).spans ≡ None =
    ap (λ (s : SiteRow). find (λ (t : SpanRow). c.args.token == t.token) s.spans) (sym c.site_at.ensures.row) ∙ sym found ∙ ap (option_map (λ x. x.now)) c.in-None.is in
    descriptor_is c.args.token 0 (site_numbered c.args.i.now.sites c.args.a.now.site).spans None is refl
