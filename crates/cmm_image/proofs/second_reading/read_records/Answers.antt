use Rattle.std.proofs.Common.{◌≡◌, ◌+◌, ◌-◌, ◌∷◌, ◌++◌, [], List, ℕ, length, flat_map, ◌∙◌, ap, subst, sym, arith}
use Rattle.std.proofs.lemmas.List.{length-append}
use Rattle.std.proofs.lemmas.Result.{err_from_is_err_and}
use Rattle.cmm_image.specs.declared.procedure_record.ProcedureRecord.{ProcedureRecord}
use Rattle.cmm_format.specs.Formats.{rows_behind_at}
use Rattle.cmm_image.specs.SecondFormat.{addresses_of}
use Rattle.cmm_image.specs.inside.Records.{Distinct}
use Rattle.cmm_image.proofs.RecordLaws.{behind_done, behind_ends, behind_next, each_record, front_none, more_distinct, read_behind, records_at}
use Rattle.cmm_image.proofs.second_reading.read_records.Goals as goal

pub loop-number-init : goal.loop-number-init
loop-number-init c =
    let totals = c.args.totals.now in
    let none : c.new.result.items ≡ [] = c.new.ensures.items in
    let all : totals.procedures - 0 ≡ totals.procedures = omega arith in record {
      read = subst (λ (rs : List ProcedureRecord). read_behind totals rs 0 c.args.bytes.now ≡ records_at totals c.args.bytes.now) (sym none)
          (front_none (rows_behind_at (each_record totals) (totals.procedures - 0) [] c.args.bytes.now)
          ∙ ap (λ (n : ℕ). rows_behind_at (each_record totals) n [] c.args.bytes.now) all);
      kept = c.new-2.ensures.empty ∙ ap addresses_of (sym none);
      count = ap length none;
      distinct = subst (λ (rs : List ProcedureRecord). Distinct (flat_map (λ r. r.sites) rs)) (sym none) tt;
      bytes = λ i. omega (arith, c.type_inv.bytes i);
    }

pub returns-in_err-next-clause-records : goal.returns-in_err-next-clause-records
returns-in_err-next-clause-records c =
    let p = err_from_is_err_and c.from_residual.result c.from_residual.ensures.1 in
    rw (p.1, p.2)
    (behind_ends c.in_err-next.field-0.0 (each_record c.args.totals.now) c.loop-number.read.records.items c.args.totals.now.procedures c.loop-number.number
    c.loop-number.reader.rest.now c.read_record.new.reader.rest.now (records_at c.args.totals.now c.args.bytes.now) c.loop-number-test.true
    c.in_err-next.ensures c.loop-number.invariant.read)

pub add-requires-clause-apart : goal.add-requires-clause-apart
add-requires-clause-apart c =
    (more_distinct c.args.totals.now c.loop-number.read.records.items c.in_ok-next.next c.loop-number.reader.rest.now c.read_record.new.reader.rest.now c.loop-number.invariant.bytes
    c.in_ok-next.ensures c.loop-number.invariant.distinct).0

pub loop-number-preserved : goal.loop-number-preserved
loop-number-preserved c =
    let totals = c.args.totals.now in
    let before = c.loop-number.read.records.items in
    let next = c.in_ok-next.next in
    let number = c.loop-number.number in
    let after = c.read_record.new.reader.rest.now in
    let is : c.add.new.self.records.items ≡ before ++ next ∷ [] = c.in_ok-add.ensures.records in
    let more = more_distinct totals before next c.loop-number.reader.rest.now after c.loop-number.invariant.bytes c.in_ok-next.ensures c.loop-number.invariant.distinct in
    let count = c.loop-number.invariant.count in record {
      read = subst (λ (rs : List ProcedureRecord). read_behind totals rs (number + 1) after ≡ records_at totals c.args.bytes.now) (sym is)
          (behind_next (each_record totals) before totals.procedures number c.loop-number.reader.rest.now next after (records_at totals c.args.bytes.now) c.loop-number-test.true
          c.in_ok-next.ensures c.loop-number.invariant.read);
      kept = c.in_ok-add.ensures.kept;
      count = ap length is ∙ length-append before (next ∷ []) ∙ ap (λ (n : ℕ). n + 1) count;
      distinct = subst (λ (rs : List ProcedureRecord). Distinct (flat_map (λ r. r.sites) rs)) (sym is) more.0;
      bytes = more.1;
    }

pub returns-clause-records : goal.returns-clause-records
returns-clause-records c =
    rw c.from_vec.ensures
    (behind_done (each_record c.args.totals.now) c.loop-number.read.records.items c.args.totals.now.procedures c.loop-number.number c.loop-number.reader.rest.now
    (records_at c.args.totals.now c.args.bytes.now) c.loop-number-test.false c.loop-number.invariant.read)
