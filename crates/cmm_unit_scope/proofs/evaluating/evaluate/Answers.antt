use Rattle.std.proofs.Common.{◌≡◌, ◌∙◌, ◌<◌, ℕ, Bool, List, Some, set, length, map, get_or, ap, sym, subst, arith}
use Rattle.std.specs.Prelude.{slice_get}
use Rattle.std.specs.List.{All}
use Rattle.std.proofs.lemmas.List.{length-map, length-set, take_all}
use Rattle.cmm_static_semantics.specs.declared.sense.Sense.{Sense}
use Rattle.cmm_symbols.specs.Shown.{shown, entry_shown}
use Rattle.cmm_symbols.specs.declared.table.Named.{Named}
use Rattle.cmm_symbols.specs.declared.entry.Entry.{Entry}
use Rattle.cmm_typing.specs.Fitting.{FitsSense}
use Rattle.cmm_unit_scope.specs.Senses.{senses_by}
use Rattle.cmm_unit_scope.specs.inside.Evaluating.{IsOrder, declared_at, flag_at, sense_after, width_by}
use Rattle.cmm_unit_scope.proofs.Loops.{declared_listed}
use Rattle.cmm_unit_scope.proofs.Setting.{IsOnTheWay, order_as, node_below, set_fits, unit_words, way_begins, way_goes, way_ends}
use Rattle.cmm_unit_scope.proofs.evaluating.evaluate.Goals as goal

pub loop-node-init : goal.loop-node-init
loop-node-init c = (
  c.requires.size,
  c.requires.fits,
  λ program is. way_begins program (map shown c.args.table.now.declared) c.args.senses.now is c.requires.fits,
)

pub sense_after-sense-requires : goal.sense_after-sense-requires
sense_after-sense-requires c =
    unit_words (map shown c.args.table.now.declared) c.as_slice.result.now (subst (λ (q : List Sense). All (λ s. FitsSense (Some s)) q) (sym c.as_slice.ensures) c.loop-node.invariant.1)

pub loop-node-preserved : goal.loop-node-preserved
loop-node-preserved c =
    let ds = map shown c.args.table.now.declared in
    let flags = flag_at c.args.cyclic.now in
    let order = c.as_slice-node-items.result.now in
    let left = c.args.peeled.now.left in
    let k = c.loop-node.node-index in
    let node = get_or order k 0 in
    let old = c.loop-node.senses in
    let before = c.at-before.result in
    let read = c.as_slice-declared.result.now in
    let d = c.index-declared-node.result in
    let width = width_by c.args.types.now in
    let got : slice_get old node ≡ Some before = subst (λ (q : List Sense). slice_get q node ≡ Some before) c.as_slice.ensures c.at-before.ensures in
    let made : ◌≡◌ {A = Sense} c.sense_after-sense.result (sense_after (senses_by ds c.as_slice.result.now) width c.is_flagged-flag.result before (entry_shown (get_or read node d).what)) = c.sense_after-sense.ensures in
    let flag : ◌≡◌ {A = Bool} c.is_flagged-flag.result (flags node) = c.is_flagged-flag.ensures in
    let is : c.set.new.self ≡ set old node (sense_after (senses_by ds old) width (flags node) before (entry_shown d.what))
    = c.set.ensures
    ∙ ap (set old node)
    (made ∙ ap (λ (q : List Sense). sense_after (senses_by ds q) width c.is_flagged-flag.result before (entry_shown (get_or read node d).what)) c.as_slice.ensures
    ∙ ap (λ (b : Bool). sense_after (senses_by ds old) width b before (entry_shown (get_or read node d).what)) flag
    ∙ ap (λ (n : Named Entry). sense_after (senses_by ds old) width (flags node) before (entry_shown n.what)) (sym c.index-declared-node.is)) in
    let second : IsOrder ds flags order left = order_as ds flags c.args.peeled.now.order order left c.as_slice-node-items.ensures c.requires.order in
    let below : node < length ds = node_below ds flags order left second k c.loop-node-test.true in
    let size : length ds ≡ length c.args.table.now.declared = length-map c.args.table.now.declared shown in
    let same : length read ≡ length c.args.table.now.declared = ap length c.as_slice-declared.ensures in
    let within : node < length read = omega arith in (
      ap length is ∙ length-set old node _ ∙ c.loop-node.invariant.0,
      set_fits ds old c.set.new.self width (flags node) node before (entry_shown d.what) got c.loop-node.invariant.1 is,
      λ program first.
          way_goes program ds flags c.requires.cyclic order left second c.args.types.now c.requires.types k c.loop-node-test.true old (c.loop-node.invariant.2 program first) (shown d)
          (subst (λ (q : List (Named Entry)). declared_at (map shown q) node ≡ Some (shown d)) c.as_slice-declared.ensures (declared_listed read node d within c.index-declared-node.is)) before got c.set.new.self is,
    )

pub returns-clause-senses : goal.returns-clause-senses
returns-clause-senses c =
    let ds = map shown c.args.table.now.declared in
    let flags = flag_at c.args.cyclic.now in
    let order = c.as_slice-node-items.result.now in
    let left = c.args.peeled.now.left in
    let k = c.loop-node.node-index in
    let second : IsOrder ds flags order left = order_as ds flags c.args.peeled.now.order order left c.as_slice-node-items.ensures c.requires.order in
    λ program first.
    way_ends program ds flags c.requires.cyclic order left second c.loop-node.senses
    (subst (λ (q : List ℕ). IsOnTheWay program ds q c.loop-node.senses) (take_all k order c.loop-node-test.false) (c.loop-node.invariant.2 program first))

pub returns-clause-fits : goal.returns-clause-fits
returns-clause-fits c = unit_words (map shown c.args.table.now.declared) c.loop-node.senses c.loop-node.invariant.1
