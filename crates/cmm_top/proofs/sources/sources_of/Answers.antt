use Rattle.std.specs.Prelude.{slice_index_or}
use Rattle.std.proofs.lemmas.List.{map_more}
use Rattle.std.proofs.Common.{ℕ, [], ◌∷◌, ◌+◌, Bor, List, drop, map, take, subst, sym, ◌∙◌}
use Rattle.cmm_lexer.specs.declared.tokens.TheConstants.{UNIT_LIMIT}
use Rattle.cmm_work.specs.Files.{HasBytes}
use Rattle.cmm_top.specs.inside.Reading.{AreRead}
use Rattle.cmm_work.specs.Reading.{IsFileOf}
use Rattle.cmm_top.proofs.FilesRead.{more_read}
use Rattle.cmm_outside.specs.Reads.{AreReadWhole, Made}
use Rattle.cmm_work.proofs.Shared.{in_order_for, read_whole}
use Rattle.cmm_top.proofs.ReadsMade.{names_split, unit_in_vain, unit_read}
use Rattle.cmm_top.specs.Reads.{units_in}
use Rattle.cmm_top.proofs.sources.sources_of.Goals as goal

pub loop-name-preserved : goal.loop-name-preserved
loop-name-preserved g c =
    let contents = g.F.Files.contents c.args.files.now in
    let k = c.loop-name.name-index in
    let names = c.args.names.now in
    let nothing : Bor (List ℕ) = record { ref_ptr = (0, 0); now = [] } in
    let unit = c.in_ok-unit.unit in (
      subst (λ ns. AreRead contents ns c.add.new.self) (sym (map_more (λ name. name.now) names k nothing c.loop-name-test.true))
          (more_read contents (map (λ name. name.now) (take k names)) (slice_index_or names k nothing).now unit c.loop-name.sources c.add.new.self c.loop-name.invariant.0
          (subst (λ told. HasBytes told (slice_index_or names k nothing).now (λ bytes. IsFileOf UNIT_LIMIT bytes unit)) c.loop-name.invariant.1 c.in_ok-unit.ensures.ok) c.in_ok-add.ensures.units),
      c.bytes_in.ensures.same ∙ c.loop-name.invariant.1,
      c.in_ok-unit.ensures.fault.0 ∙ c.loop-name.invariant.2,
      c.in_ok-unit.ensures.fault.1 ∙ c.loop-name.invariant.3,
      c.in_ok-add.ensures.within k c.loop-name.invariant.4,
      subst (λ ns. Made (g.F.Files.reads c.args.files.now) (g.F.Files.reads c.bytes_in.new.files) (AreReadWhole (units_in ns))) (sym (map_more (λ name. name.now) names k nothing c.loop-name-test.true))
          (unit_read (map (λ name. name.now) (take k names)) (slice_index_or names k nothing).now _ _ _ c.loop-name.invariant.5 c.in_ok-unit.ensures.reads),
    )

pub returns-in_err-unit-clause-reads : goal.returns-in_err-unit-clause-reads
returns-in_err-unit-clause-reads g c =
    let k = c.loop-name.name-index in
    let names = c.args.names.now in
    let nothing : Bor (List ℕ) = record { ref_ptr = (0, 0); now = [] } in
    in_order_for (units_in (map (λ name. name.now) names)) _ _ c.from_residual.result _ c.from_residual.ensures.1
    (unit_in_vain (map (λ name. name.now) (take k names)) (slice_index_or names k nothing).now (map (λ name. name.now) (drop (k + 1) names)) (map (λ name. name.now) names) _ _ _
    (names_split names k nothing c.loop-name-test.true) c.loop-name.invariant.5 c.in_err-unit.ensures.reads)

pub returns-in_err-add-clause-reads : goal.returns-in_err-add-clause-reads
returns-in_err-add-clause-reads g c =
    let k = c.loop-name.name-index in
    let names = c.args.names.now in
    let nothing : Bor (List ℕ) = record { ref_ptr = (0, 0); now = [] } in
    in_order_for (units_in (map (λ name. name.now) names)) _ _ c.from_residual-in_err-add.result _ c.from_residual-in_err-add.ensures.1
    (unit_in_vain (map (λ name. name.now) (take k names)) (slice_index_or names k nothing).now (map (λ name. name.now) (drop (k + 1) names)) (map (λ name. name.now) names) _ _ _
    (names_split names k nothing c.loop-name-test.true) c.loop-name.invariant.5
    (read_whole (units_in ((slice_index_or names k nothing).now ∷ [])) _ _ c.in_ok-unit.ensures.reads))
