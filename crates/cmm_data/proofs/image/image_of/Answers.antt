use Rattle.std.proofs.Common.{◌≡◌, ℕ, ◌+◌, ◌++◌, refl, ◌∙◌, ap, arith, List, drop, length, map}
use Rattle.std.proofs.lemmas.List.Elements.{All-drop, All-weaker}
use Rattle.std.proofs.lemmas.Option.{slice_get_read}
use Rattle.rv_table.specs.Memory.{data_base}
use Rattle.cmm_program.proofs.Shared.{all_get}
use Rattle.cmm_program.specs.Layout.{datum_piece, end_of}
use Rattle.cmm_data.specs.Conditions.{HasAlignment, IsLayable}
use Rattle.cmm_data.specs.declared.fix.Fix.{Fix}
use Rattle.cmm_data.specs.inside.Walking.{bytes_by, datum_by, fixes_from, unfilled, value_fixes}
use Rattle.cmm_data.proofs.Ends.{ends_grow}
use Rattle.cmm_data.proofs.Placing.{bytes_more, end_more, fixes_more, room_for_datum, zeros}
use Rattle.cmm_data.proofs.image.image_of.Goals as goal

pub align-requires-clause-size : goal.align-requires-clause-size
align-requires-clause-size c =
    let ds = c.args.datums.now in
    let i = c.loop-datum.datum-index in
    let all = All-weaker (IsLayable (length c.args.addresses.now)) HasAlignment (λ d layable. layable.align) ds c.requires.datums in
    let here = data_base + length c.loop-datum.image.bytes.items in
    omega (arith, ends_grow here (drop i ds) (All-drop HasAlignment i ds all), c.loop-datum.invariant.last, c.requires.size)

pub add_datum-requires-clause-room : goal.add_datum-requires-clause-room
add_datum-requires-clause-room c =
    let ds = c.args.datums.now in
    let i = c.loop-datum.datum-index in
    let d = c.datum-item.result in
    let n = length c.args.addresses.now in
    let old = c.loop-datum.image.bytes.items in
    let is = slice_get_read ds (length ds) i d refl c.loop-datum-test.true c.datum-item.is in
    let layable = all_get (IsLayable n) ds i d c.requires.datums is in
    let all = All-weaker (IsLayable n) HasAlignment (λ d layable. layable.align) ds c.requires.datums in
    let room = room_for_datum old ds i d all layable.align is (omega (arith, c.loop-datum.invariant.last, c.requires.size)) in
    omega (arith, ap length c.in_ok-align.ensures.bytes, room)

pub loop-datum-preserved : goal.loop-datum-preserved
loop-datum-preserved c =
    let ds = c.args.datums.now in
    let i = c.loop-datum.datum-index in
    let d = c.datum-item.result in
    let n = length c.args.addresses.now in
    let word = unfilled c.args.addresses.now in
    let old = c.loop-datum.image.bytes.items in
    let fixes = c.loop-datum.image.fixes.items in
    let here = data_base + length old in
    let left = drop (i + 1) ds in
    let is = slice_get_read ds (length ds) i d refl c.loop-datum-test.true c.datum-item.is in
    let layable = all_get (IsLayable n) ds i d c.requires.datums is in
    let bytes_are : c.add_datum.new.self.bytes.items ≡ (old ++ zeros here d) ++ datum_by word d =
    c.in_ok-add_datum.ensures.bytes ∙ ap (λ (xs : List ℕ). xs ++ datum_by word d) c.in_ok-align.ensures.bytes
    in
    let fixes_are : c.add_datum.new.self.fixes.items ≡ fixes ++ value_fixes (length (old ++ zeros here d)) d.width d.values =
    c.in_ok-add_datum.ensures.fixes
    ∙ ap (λ (fs : List Fix). fs ++ value_fixes (length c.align.new.self.bytes.items) d.width d.values) c.in_ok-align.ensures.fixes
    ∙ ap (λ (xs : List ℕ). fixes ++ value_fixes (length xs) d.width d.values) c.in_ok-align.ensures.bytes
    in
    record {
      so_far = ap (λ (xs : List ℕ). xs ++ bytes_by word (data_base + length xs) left) bytes_are ∙ bytes_more word n old d layable ds i is ∙ c.loop-datum.invariant.so_far;
      waiting = ap (λ (fs : List Fix). fs ++ fixes_from (data_base + length c.add_datum.new.self.bytes.items) left) fixes_are
          ∙ ap (λ (xs : List ℕ). (fixes ++ value_fixes (length (old ++ zeros here d)) d.width d.values) ++ fixes_from (data_base + length xs) left) bytes_are
          ∙ fixes_more word n old d layable fixes ds i is ∙ c.loop-datum.invariant.waiting;
      last = ap (λ (xs : List ℕ). end_of (data_base + length xs) (map datum_piece left)) bytes_are ∙ end_more word n old d layable ds i is ∙ c.loop-datum.invariant.last;
    }
