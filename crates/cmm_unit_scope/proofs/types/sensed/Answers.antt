use Rattle.std.proofs.Common.{◌∙◌, ◌++◌, ◌∷◌, [], List, Option, Some, map, sym, take, ap}
use Rattle.cmm_static_semantics.specs.declared.sense.Sense.{Sense}
use Rattle.cmm_symbols.specs.Shown.{shown, entry_shown}
use Rattle.cmm_symbols.specs.declared.table.Named.{Named}
use Rattle.cmm_symbols.specs.declared.entry.Entry.{Entry}
use Rattle.cmm_static_semantics.proofs.Shared.{mapped_next}
use Rattle.cmm_unit_scope.specs.Types.{type_sense}
use Rattle.cmm_unit_scope.specs.inside.Numbers.{sense_by}
use Rattle.cmm_unit_scope.proofs.Meanings.{sense_listed}
use Rattle.cmm_unit_scope.proofs.types.sensed.Goals as goal

pub loop-number-preserved : goal.loop-number-preserved
loop-number-preserved c =
    let ds = c.args.declared.now in
    let k = c.loop-number.number in
    let d = c.index-declared-number.result in
    let before = map (λ (n : Named Entry). type_sense (map shown ds) (Some (entry_shown n.what))) (take k ds) in
    c.in_ok-push.ensures.ok ∙ ap (λ (ss : List (Option Sense)). ss ++ c.sense_by.result ∷ []) c.loop-number.invariant
    ∙ ap (λ (s : Option Sense). before ++ s ∷ [])
    (c.sense_by.ensures ∙ ap (λ w. sense_by w (entry_shown d.what)) c.width_at.ensures ∙ sense_listed ds c.args.widths.now k d c.requires c.loop-number-test.true c.index-declared-number.is)
    ∙ sym (mapped_next (λ n. type_sense (map shown ds) (Some (entry_shown n.what))) ds k d c.loop-number-test.true c.index-declared-number.is)
