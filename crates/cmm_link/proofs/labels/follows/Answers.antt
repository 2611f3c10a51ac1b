use Rattle.std.proofs.Common.{◌≡◌, ◌-◌, length, slice_get, Some, ap, sym, ◌∙◌, is_lt}
use Rattle.std.specs.Option.{option_copied, option_map}
use Rattle.cmm_image.specs.ImageFormat.{is_after}
use Rattle.cmm_link.proofs.labels.follows.Goals as goal

pub returns-in-Some : goal.returns-in-Some
returns-in-Some c =
    let rows = c.args.rows.now in
    let at : slice_get rows (length rows - 1) ≡ Some c.in-Some.last.now = sym c.last.ensures ∙ ap option_copied c.in-Some.is in
    c.is_lt.ensures ∙ ap is_lt c.cmp.ensures ∙ sym (ap (λ o. is_after (option_map (λ row. row.name) o) c.args.name.now) at)
